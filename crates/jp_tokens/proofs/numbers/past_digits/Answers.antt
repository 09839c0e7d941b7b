use Rattle.std.proofs.Common.{rules}
use Rattle.jp_tree.specs.Characters.{is_digit}
use Rattle.jp_tokens.proofs.Trims.{trimmed}
use Rattle.jp_tokens.proofs.numbers.past_digits.Goals as goal

pub returns : goal.returns
returns c = trimmed is_digit _ _ c.args.text.now c.utf8.text c.trim_start_matches.result.now
    c.trim_start_matches.ensures.matches (λ f a b g h. search rules)
