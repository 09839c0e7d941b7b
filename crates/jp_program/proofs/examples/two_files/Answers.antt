use Rattle.std.proofs.Common.{false, refl, arith, [], ◌∷◌, codes}
use Rattle.clap.proofs.OnLiterals.{clap_on_literals}
use Rattle.jp_program.specs.CommandLine.{said, refusals}
use Rattle.jp_program.proofs.Naming.{all_names}
use Rattle.jp_program.proofs.examples.two_files.Goals as goal

pub returns : goal.returns
unfolding clap_on_literals said refusals
returns c = (
  refl,
  record {
    query = refl;
    filter = refl;
    files = (refl, all_names (codes "x" ∷ codes "y" ∷ []) refl);
    names = (false, refl, refl);
    cutting = refl;
    check = refl;
    counts = (refl, tt);
    output = refl;
    ending = (refl, tt);
    fields = (refl, refl, omega arith);
    numbers = refl;
    on_fault = refl;
    explain = refl;
    exit_status = refl;
    settings = (
      (52 ∷ [], refl, (omega arith, (omega arith, tt)), refl),
      (54 ∷ 52 ∷ [], refl, (omega arith, (omega arith, (omega arith, tt))), refl),
      (
        52 ∷ 48 ∷ 57 ∷ 54 ∷ [],
        refl,
        (omega arith, (omega arith, (omega arith, (omega arith, (omega arith, tt))))),
        refl,
      ),
      ((omega arith, omega arith), (omega arith, omega arith), (omega arith, omega arith)),
      ((49 ∷ [], refl, (omega arith, (omega arith, tt)), refl), (omega arith, omega arith)),
    );
  },
)
