-- Bytes that are written in turns.
use Rattle.std.proofs.Common.{◌≡◌, ℕ, List, [], ◌++◌, length, take, drop, refl, sym, ◌∙◌, ap, subst, Option}
use Rattle.std.proofs.Common.{append_assoc, append-nil, arith, length-append, take-append-drop, take_at}
use Rattle.std.specs.Io.KnownBytes.{Appends, Keeps}
use Rattle.std.proofs.KnownBytes.{Appends-nil, Appends-trans, Appends-kept}
use Rattle.jp_run.specs.Written.{AppendsFront}

-- a front of the bytes was appended, and this is left of them
pub record Written (old new : Option (List ℕ)) (bytes rest : List ℕ) : Type 0 where
  pub front : List ℕ
  pub cut : bytes ≡ front ++ rest
  pub appended : Appends old new front

pub written_start : (a : Option (List ℕ)) (bytes : List ℕ) → Written a a bytes bytes
written_start a bytes = record { front = []; cut = refl; appended = Appends-nil a }

pub written_more : (a b c : Option (List ℕ)) (bytes rest : List ℕ) (n : ℕ) → Written a b bytes rest
    → Appends b c (take n rest) → Written a c bytes (drop n rest)
written_more a b c bytes rest n w h = record {
  front = w.front ++ take n rest;
  cut = w.cut ∙ ap (λ l. w.front ++ l) (sym (take-append-drop n rest))
      ∙ sym (append_assoc w.front (take n rest) (drop n rest));
  appended = Appends-trans a b c w.front (take n rest) w.appended h;
}

pub written_all : (a b : Option (List ℕ)) (bytes rest : List ℕ) → Written a b bytes rest → rest ≡ []
    → Appends a b bytes
written_all a b bytes rest w e = subst (Appends a b) (sym (w.cut ∙ ap (λ l. w.front ++ l) e
    ∙ append-nil w.front)) w.appended

pub written_stopped : (a b c : Option (List ℕ)) (bytes rest : List ℕ) → Written a b bytes rest
    → Keeps b c → AppendsFront a c bytes
written_stopped a b c bytes rest w h = (
  length w.front,
  omega (arith, ap length w.cut, length-append w.front rest),
  subst (Appends a c) (sym (ap (take (length w.front)) w.cut
      ∙ take_at w.front rest (length w.front) refl)) (Appends-kept a b c w.front w.appended h),
)
