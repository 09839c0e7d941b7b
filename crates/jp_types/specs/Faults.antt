-- The faults of a part of a tree: what of its numbers and its calls is refused.
use Rattle.std.specs.Prelude.{Bool, not, ◌||◌, List}
use Rattle.std.specs.List.{list_any, list_all}
use Rattle.jp_number.specs.declared.numbers.Numbers.TheVariants.{Decimals}
use Rattle.jp_types.specs.Numbers.{Written, is_fraction, is_in_range, is_in_range_in}
use Rattle.jp_types.specs.declared.faults.Faults.{Faults}

-- the faults of a part with these numbers, which is well-typed or not
abbrev pub faults_of : List Written → Bool → Faults
faults_of numbers typed =
    record {
      fraction = list_any is_fraction numbers;
      out_of_range = not (list_all is_in_range numbers);
      over_limits = not (list_all (is_in_range_in Decimals) numbers);
      ill_typed = not typed;
    }

-- the faults of two parts together
abbrev pub joined : Faults → Faults → Faults
joined a b =
    record {
      fraction = a.fraction || b.fraction;
      out_of_range = a.out_of_range || b.out_of_range;
      over_limits = a.over_limits || b.over_limits;
      ill_typed =
          a.ill_typed || b.ill_typed;
    }
