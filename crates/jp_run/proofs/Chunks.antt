-- Chunks that are written one after another.
use Rattle.std.proofs.Common.{◌≡◌, ℕ, suc, ◌+◌, ◌<◌, List, ◌∷◌, ◌++◌, length, take, drop, get_or, sym, ap}
use Rattle.std.proofs.Common.{◌∙◌, subst, arith, length-append, append_assoc, add-one, Option, Vec, Global}
use Rattle.std.proofs.Common.{vec_len}
use Rattle.std.proofs.Math.Seq.{drop-cons, take-append-add}
use Rattle.std.specs.Io.KnownBytes.{Appends}
use Rattle.std.proofs.KnownBytes.{Appends-trans}
use Rattle.jp_output.specs.Chunks.{bytes_in}
use Rattle.jp_run.specs.Counts.{counted}
use Rattle.jp_run.specs.Written.{AppendsFront}
use Rattle.jp_run.proofs.Handed.{Written}
use Rattle.jp_run.proofs.Handing.{front_longer}

-- the chunk at a place, and those behind it
module _ (chunks : List (Vec ℕ Global)) (i : ℕ) (x : Vec ℕ Global) (h : i < length chunks)
    (is : x ≡ get_or chunks i x) where
  abbrev later : List ℕ
  later = bytes_in (drop (i + 1) chunks)

  here : bytes_in (drop i chunks) ≡ x.items ++ later
  here =
      let cut : drop i chunks ≡ get_or chunks i x ∷ drop (suc i) chunks = drop-cons chunks i x h in
      rw (add-one i) (ap bytes_in cut
      ∙ ap (λ (c : Vec ℕ Global). c.items ++ bytes_in (drop (suc i) chunks)) (sym is))

  pub chunk_more : (a b c : Option (List ℕ)) → Written a b (bytes_in chunks) (bytes_in (drop i chunks))
      → Appends b c x.items → Written a c (bytes_in chunks) later
  chunk_more a b c w k = record {
    front = w.front ++ x.items;
    cut = w.cut ∙ ap (λ l. w.front ++ l) here ∙ sym (append_assoc w.front x.items later);
    appended = Appends-trans a b c w.front x.items w.appended k;
  }

  pub chunk_stopped : (a b c : Option (List ℕ)) → Written a b (bytes_in chunks) (bytes_in (drop i chunks))
      → AppendsFront b c x.items → AppendsFront a c (bytes_in chunks)
  chunk_stopped a b c w k =
      let rest = bytes_in (drop i chunks) in
      let front : AppendsFront b c rest = front_longer b c x.items later rest here k in (
        length w.front + front.0,
        omega (arith, ap length w.cut, length-append w.front rest, front.1),
        subst (Appends a c) (sym (ap (take (length w.front + front.0)) w.cut
            ∙ take-append-add w.front rest front.0))
            (Appends-trans a b c w.front (take front.0 rest) w.appended front.2),
      )

  -- its bytes are counted on
  pub chunk_counted : (count all : ℕ) → counted count (length (bytes_in (drop i chunks))) ≡ all
      → counted (counted count (vec_len x)) (length later) ≡ all
  chunk_counted count all h =
      let is_len : vec_len x ≡ length x.items = x.ok.0 in
      omega (arith, h, is_len, ap length here, length-append x.items later)
