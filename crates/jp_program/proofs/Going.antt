-- Files that are answered or passed, and how many of them have failed.
use Rattle.std.proofs.Common.{◌≡◌, ◌∙◌, ℕ, ◌+◌, ◌<◌, inl, inr, Bool, true, false, List, [], ◌∷◌, suc}
use Rattle.std.proofs.Common.{length, map, take, get_or, Option, ◌||◌}
use Rattle.std.proofs.Common.{refl, sym, ap, arith}
use Rattle.std.specs.Borrow.{Bor}
use Rattle.std.specs.Io.KnownBytes.{Keeps}
use Rattle.clap.specs.Walk.{Text, texts}
use Rattle.jp_answer.specs.declared.on_fault.OnFault.{OnFault}
use Rattle.jp_answer.specs.declared.on_fault.OnFault.TheVariants.{Stop, KeepGoing}
use Rattle.jp_program.specs.Inputs.{Course, EachInTurn, Held, Input, Standing, counted_if, counted_times}
use Rattle.jp_program.specs.Inputs.{named}
use Rattle.jp_program.specs.Outcome.{AreFailed, HasFailed, HasGoneOn, IsCut, IsWhole, IsWholeOrCut}
use Rattle.jp_program.specs.Outcome.{ends_run, left_of, reads_before}
use Rattle.jp_program.specs.Wanted.{Wanted}
use Rattle.jp_program.proofs.Told.{cut_kept, failed_kept, whole_kept}
use Rattle.jp_program.proofs.Turns.{course_with, file_more, in_weaker}

-- each of these inputs was answered or passed, so many have failed in all, and whether any of these has
abbrev pub HaveCome : Wanted → List Input → Option (List ℕ) → Option (List ℕ) → ℕ → ℕ → Bool → Type 0
HaveCome w inputs old new broken total some = (failed : ℕ)
    × EachInTurn (IsWholeOrCut w) inputs (old, 0) (new, failed) × (total ≡ counted_times failed broken)
    × (some ≡ true → 0 < failed) × (some ≡ false → failed ≡ 0)

as_before : (before both : Bool) → both ≡ before || false → both ≡ before
as_before true both e = e
as_before false both e = e

one_has : (before both : Bool) → both ≡ before || true → both ≡ true
one_has true both e = e
one_has false both e = e

not_both : {A : Type 0} (b : Bool) → b ≡ true → b ≡ false → A
not_both b on off = absurd (let k : true ≡ false = sym on ∙ off in cc)

-- none fails unless the answer keeps going
pub never_failed : {P : Type 0} (going : OnFault) (some : Bool) → going ≡ Stop
    → (some ≡ true → (going ≡ KeepGoing) × P) → some ≡ false
never_failed going false off cut = refl
never_failed going true off cut = absurd (let both : KeepGoing ≡ Stop = sym (cut refl).0 ∙ off in cc)

pub none_of_both : (a b both : Bool) → both ≡ a || b → a ≡ false → b ≡ false → both ≡ false
none_of_both false b both is a_off b_off = is ∙ b_off
none_of_both true b both is a_off b_off = absurd (cc)

-- one file more
module _ (w : Wanted) (holds held : Text → Held) (same : held ≡ holds) (names : List (Bor Text)) (i : ℕ)
    (d : Bor Text) (h : i < length names) (old mid new : Option (List ℕ)) (broken total broken_new : ℕ)
    (before both source_failed : Bool) where
  pub come_more : (next : Bool)
      → HaveCome w (take i (map (named holds) (texts names))) old mid broken total before
      → both ≡ before || next → broken_new ≡ total → source_failed ≡ next
      → (next ≡ false → IsWhole w (named held (get_or names i d).now) mid new)
      → (next ≡ true → (w.on_fault ≡ KeepGoing) × IsCut w (named held (get_or names i d).now) mid new)
      → HaveCome w (take (i + 1) (map (named holds) (texts names))) old new broken
      (counted_if source_failed broken_new) both
  come_more false come flag count fails whole cut = (
    come.0,
    file_more holds held same names i d h (IsWholeOrCut w) (old, 0) (mid, come.0) (new, come.0) come.1
        (inl (whole refl, refl)),
    ap (λ b. counted_if b broken_new) fails ∙ count ∙ come.2,
    λ on. come.3 (sym (as_before before both flag) ∙ on),
    λ off. come.4 (sym (as_before before both flag) ∙ off),
  )
  come_more true come flag count fails whole cut =
      let was = cut refl in (
        suc come.0,
        file_more holds held same names i d h (IsWholeOrCut w) (old, 0) (mid, come.0) (new, suc come.0) come.1
            (inr (was.0, was.1, refl)),
        ap (λ b. counted_if b broken_new) fails ∙ ap (λ n. counted_if true n) (count ∙ come.2),
        λ on. omega arith,
        λ off. not_both both (one_has before both flag) off,
      )

-- the same once a flush has kept what was written

module _ (w : Wanted) where
  each_kept : (inputs : List Input) (old : Standing) (new after : Option (List ℕ)) (failed : ℕ)
      → 0 < length inputs → EachInTurn (IsWholeOrCut w) inputs old (new, failed) → Keeps new after
      → EachInTurn (IsWholeOrCut w) inputs old (after, failed)
  each_kept [] old new after failed some h k = absurd (omega (arith, some))
  each_kept (x ∷ []) old new after failed some (inl (whole, same)) k =
      inl (whole_kept w x old.0 new after whole k, same)
  each_kept (x ∷ []) old new after failed some (inr (going, cut, more)) k =
      inr (going, (cut.0, cut_kept w true x cut.0 old.0 new after cut.1 k), more)
  each_kept (x ∷ y ∷ xs) old new after failed some h k =
      (h.0, h.1, each_kept (y ∷ xs) h.0 new after failed (omega arith) h.2 k)

  some_inputs : (inputs : List Input) (old new : Option (List ℕ)) (failed : ℕ) → 0 < failed
      → EachInTurn (IsWholeOrCut w) inputs (old, 0) (new, failed) → 0 < length inputs
  some_inputs [] old new failed some h =
      let none : failed ≡ 0 = ap (λ (s : Standing). s.1) h in absurd (omega (arith, some, none))
  some_inputs (x ∷ xs) old new failed some h = omega arith

  gone_kept : (last_failed : Bool) (inputs : List Input) (c : Course) (after : Option (List ℕ))
      → HasGoneOn w last_failed inputs c → Keeps c.contents_new after
      → HasGoneOn w last_failed inputs (course_with c after)
  gone_kept last_failed inputs c after h k = (
    h.0,
    h.1,
    each_kept inputs (c.contents, 0) c.contents_new after h.0
        (some_inputs inputs c.contents c.contents_new h.0 h.1 h.2) h.2 k,
    h.3,
    h.4,
  )

  pub are_failed_kept : (rest : Option (List ℕ)) (reads reads_new : ℕ)
      (source_failed sink_failed still : Bool) (holds : Text → Held) (first : Held) (c : Course)
      (after : Option (List ℕ)) → AreFailed w (record {
        rest = rest;
        reads = reads;
        reads_new = reads_new;
        source_failed = source_failed;
        sink_failed = sink_failed;
      }) holds first c → Keeps c.contents_new after → (sink_failed ≡ true → still ≡ true)
      → AreFailed w (record {
        rest = rest;
        reads = reads;
        reads_new = reads_new;
        source_failed = source_failed;
        sink_failed = still;
      }) holds first (course_with c after)
  are_failed_kept rest reads reads_new source_failed sink_failed still holds first c after (inl h) k on =
      inl (in_weaker (IsWholeOrCut w) (HasFailed w (left_of w (record {
        rest = rest;
        reads = reads;
        reads_new = reads_new;
        source_failed = source_failed;
        sink_failed = sink_failed;
      }))) (HasFailed w (left_of w (record {
        rest = rest;
        reads = reads;
        reads_new = reads_new;
        source_failed = source_failed;
        sink_failed = still;
      }))) c after (λ input mid failed. failed_kept w rest (reads_before w.files reads)
      reads_new (ends_run w.files w.on_fault source_failed) sink_failed still input mid c.contents_new
      after failed k on) w.files holds first h)
  are_failed_kept rest reads reads_new source_failed sink_failed still holds first c after (inr h) k on =
      inr (gone_kept source_failed (map (named holds) w.files) c after h k)
