-- What the number says that the bytes of a text lead to.
use Rattle.std.proofs.Common.{◌≡◌, ℕ, ◌*◌, ◌<◌, ◌≤◌, ◌⊎◌, ◌↔◌, Bool, true, false, IsTrue, List, [], ◌∷◌, ◌++◌}
use Rattle.std.proofs.Common.{length, slice_index_or, inl, inr, refl, sym, ap, ◌∙◌, subst, arith, true≢false}
use Rattle.std.proofs.Common.{append_assoc, append-nil, ◌&&◌, ◌||◌, nat_lt, nat_le}
use Rattle.std.proofs.lemmas.Bool.{cases_lt, lt-ltb, le-leb, or_left}
use Rattle.std.proofs.lemmas.Str.{encodes-chars, scalars-chars}
use Rattle.std.specs.Str.{chars, IsUtf8}
use lib.Utf8.{encodes, scalar, scalars, scalar_cases}
use Rattle.jp_automaton.specs.declared.dfa.State.{State}
use Rattle.jp_pattern.specs.CharSets.{is_scalar}
use Rattle.jp_pattern.specs.Language.{HasPart, Member}
use Rattle.jp_pattern.specs.Pattern.{Text, Pattern}
use Rattle.jp_pattern.specs.Profile.{HasCounts}
use Rattle.jp_automaton.specs.inner.Dfa.{IsCell, IsDfaOf, next_positions, state_behind}
use Rattle.jp_pattern.specs.Unrolled.{unrolled, SomePositionHas, all_positions}
use Rattle.jp_automaton.proofs.BytesLemmas.{reads_char, stuck}
use Rattle.jp_automaton.proofs.FindLemmas.{BeganIn, NoPartIn, began_found, find_more, found_began, match_more}
use Rattle.jp_automaton.proofs.FindLemmas.{began_first, no_part_first, no_part_more, none_left}
use Rattle.jp_automaton.proofs.DfaLemmas.{LeftAt, left_state, next_takes, start_left, state_accepts}
use Rattle.jp_automaton.proofs.TermLemmas.{accepted, next_rises, takes_step}

both : (a b : Bool) → (a && b) ≡ true → (a ≡ true) × (b ≡ true)
both true b e = (refl, e)
both false b e = absurd (true≢false (sym e))

or_both : (a b c : Bool) → b ≡ true → c ≡ true → (a || (b && c)) ≡ true
or_both true b c e f = refl
or_both false true c e f = f
or_both false false c e f = e

is_small : (c : ℕ) → scalar c ≡ true → c < 0x11_0000
is_small c e = by (scalar_cases c e) where
  by : (c < 55296) ⊎ ((57344 ≤ c) × (c < 1114112)) → c < 0x11_0000
  by (inl h) = omega arith
  by (inr h) = h.1

is_char : (c : ℕ) → scalar c ≡ true → IsTrue (is_scalar c)
is_char c e = by (scalar_cases c e) where
  by : (c < 55296) ⊎ ((57344 ≤ c) × (c < 1114112)) → IsTrue (is_scalar c)
  by (inl h) = or_left (nat_lt c 0xd800) _ (lt-ltb c 0xd800 h)
  by (inr h) = or_both (nat_lt c 0xd800) (nat_le 0xe000 c) (nat_le c 0x10ffff) (le-leb 0xe000 c h.0)
      (le-leb c 0x10ffff (omega arith))

-- what the number says where a part is looked for
pub record TellsFound (n : ℕ) (Found : Type 0) : Type 0 where
  pub found : n ≡ 254 → Found
  pub none : n < 254 → Found → ⊥

-- what it says where a whole text is read
pub record TellsMember (n : ℕ) (states : List State) (Is : Type 0) : Type 0 where
  pub refused : n ≡ 254 → Is → ⊥
  pub within : n < 254 → n < length states
  pub accepts : (s : State) → n < 254 → IsTrue (slice_index_or states n s).accepts ↔ Is

module _ (p : Pattern) (counts : HasCounts p) (states : List State) (cells : List ℕ) (first : State)
    (full : length cells ≡ length states * 256) where
  accepts_at : (unanchored : Bool) → IsDfaOf (unrolled p) unanchored states cells → (i : ℕ) →
      i < length states →
      IsTrue (slice_index_or states i first).accepts ↔ LeftAt p states i first []
  accepts_at unanchored of i lt =
      state_accepts p counts unanchored states cells of i (slice_index_or states i first) first lt refl

  module _ (of : IsDfaOf (unrolled p) true states cells)
      (closed : (slice_index_or states 0 first).accepts ≡ false) where
    -- where a part is found by a step, it ends there
    found_here : (read rest : Text) (i c : ℕ) → i < length states → IsCell (unrolled p) true states i c 254
        → ((s : State) (u : Text) → LeftAt p states i s u ↔ BeganIn p read u)
        → HasPart p (read ++ c ∷ rest)
    found_here read rest i c lt cell kept =
        let from = slice_index_or states i first in
        let active = next_positions (unrolled p) from c in
        let state = of.known.each i first lt in
        let has = (accepted p counts true active
        (next_rises p c from.at_start from.active.items active refl) true
        (sym (cell.found first refl refl))).0 refl in
        let began = (find_more p read c (LeftAt p states i first)
        (λ t. SomePositionHas p (all_positions true active) t) (kept first)
        (takes_step p counts from.at_start from.active.items state.rises c true active refl) []).0 has in
        began_found p (read ++ c ∷ rest) (read ++ c ∷ []) rest (sym (append_assoc read (c ∷ []) rest)) began

    has_no_match : (i n c : ℕ) → n < 254 → IsCell (unrolled p) true states i c n →
        (slice_index_or states n first).accepts ≡ false
    has_no_match i n c small cell = by (cases_lt 0 n) where
      by : (0 < n) ⊎ (n ≤ 0) → (slice_index_or states n first).accepts ≡ false
      by (inl some) =
          of.known.no_match n first some (cell.within small) (cell.follows first first small).start
      by (inr none) =
          let zero : 0 ≡ n = omega arith in
          subst (λ k. (slice_index_or states k first).accepts ≡ false) zero closed

    module _ (read cs : Text) (c i : ℕ) (lt : i < length states)
        (no_match : (slice_index_or states i first).accepts ≡ false)
        (kept : (s : State) (u : Text) → LeftAt p states i s u ↔ BeganIn p read u)
        (none : NoPartIn p read) where
      abbrev FoundOn : ℕ → Type 0
      FoundOn n = n < length states → (slice_index_or states n first).accepts ≡ false →
          ((s : State) (u : Text) → LeftAt p states n s u ↔ BeganIn p (read ++ c ∷ []) u) →
          NoPartIn p (read ++ c ∷ []) →
          TellsFound (state_behind cells n (encodes cs)) (HasPart p ((read ++ c ∷ []) ++ cs))

      found_more : (n : ℕ) → FoundOn n → IsCell (unrolled p) true states i c n → (n < 254) ⊎ (254 ≤ n) →
          TellsFound (state_behind cells n (encodes cs)) (HasPart p (read ++ c ∷ cs))
      found_more n on cell (inl small) =
          subst (λ t. TellsFound (state_behind cells n (encodes cs)) (HasPart p t))
          (append_assoc read (c ∷ []) cs)
          (on (cell.within small) (has_no_match i n c small cell)
          (λ s. find_more p read c (LeftAt p states i s) (LeftAt p states n s) (kept s)
          (next_takes p counts true states cells of i c n lt small cell s s))
          (no_part_more p read c none
          (λ h. true≢false (sym ((accepts_at true of i lt).1 ((kept first []).1 h)) ∙ no_match))))
      found_more n on cell (inr past) =
          let same = stuck cells (length states) full n (omega (arith, of.few)) (encodes cs) in
          subst (λ m. TellsFound m (HasPart p (read ++ c ∷ cs))) (sym same) (record {
            found = λ e. found_here read cs i c lt (subst (IsCell (unrolled p) true states i c) e cell) kept;
            none = λ small h. absurd (omega arith);
          })

    pub tells_found : (read cs : Text) (i : ℕ) → scalars cs ≡ true → i < length states →
        (slice_index_or states i first).accepts ≡ false →
        ((s : State) (u : Text) → LeftAt p states i s u ↔ BeganIn p read u) → NoPartIn p read →
        TellsFound (state_behind cells i (encodes cs)) (HasPart p (read ++ cs))
    tells_found read [] i scalar lt no_match kept none =
        record {
          found = λ e. absurd (omega (arith, of.few));
          none = λ small h. true≢false (sym ((accepts_at true of i lt).1 ((kept first []).1
              (found_began p (read ++ []) read (append-nil read) none h))) ∙ no_match);
        }
    tells_found read (c ∷ cs) i scalar lt no_match kept none =
        let here = both _ _ scalar in
        let stepped = reads_char cells (length states) full (unrolled p) true states of refl i c lt
        (is_char c here.0) (is_small c here.0) (encodes cs) in
        subst (λ n. TellsFound n (HasPart p (read ++ c ∷ cs))) (sym stepped.1)
        (found_more read cs c i lt no_match kept none stepped.0
        (tells_found (read ++ c ∷ []) cs stepped.0 here.1) stepped.2 (cases_lt stepped.0 254))

  module _ (of : IsDfaOf (unrolled p) false states cells) where
    -- where nothing is left, it is not in the language
    inactive_here : (read rest : Text) (i c : ℕ) → i < length states →
        IsCell (unrolled p) false states i c 254
        → ((s : State) (u : Text) → LeftAt p states i s u ↔ Member p (read ++ u))
        → Member p (read ++ c ∷ rest) → ⊥
    inactive_here read rest i c lt cell kept m =
        let from = slice_index_or states i first in
        let state = of.known.each i first lt in
        none_left p rest ((takes_step p counts from.at_start from.active.items state.rises c false []
        (sym (cell.dead first refl refl)) rest).1 (inl ((kept first (c ∷ rest)).1 m)))

    module _ (read cs : Text) (c i : ℕ) (lt : i < length states)
        (kept : (s : State) (u : Text) → LeftAt p states i s u ↔ Member p (read ++ u)) where
      abbrev MemberOn : ℕ → Type 0
      MemberOn n = n < length states →
          ((s : State) (u : Text) → LeftAt p states n s u ↔ Member p ((read ++ c ∷ []) ++ u)) →
          TellsMember (state_behind cells n (encodes cs)) states (Member p ((read ++ c ∷ []) ++ cs))

      member_more : (n : ℕ) → MemberOn n → IsCell (unrolled p) false states i c n →
          (n < 254) ⊎ (254 ≤ n) →
          TellsMember (state_behind cells n (encodes cs)) states (Member p (read ++ c ∷ cs))
      member_more n on cell (inl small) =
          subst (λ t. TellsMember (state_behind cells n (encodes cs)) states (Member p t))
          (append_assoc read (c ∷ []) cs)
          (on (cell.within small)
          (λ s. match_more p (LeftAt p states i s) (LeftAt p states n s) (Member p) read c (kept s)
          (next_takes p counts false states cells of i c n lt small cell s s)))
      member_more n on cell (inr past) =
          let same = stuck cells (length states) full n (omega (arith, of.few)) (encodes cs) in
          subst (λ m. TellsMember m states (Member p (read ++ c ∷ cs))) (sym same) (record {
            refused = λ e. inactive_here read cs i c lt
                (subst (IsCell (unrolled p) false states i c) e cell) kept;
            within = λ small. absurd (omega arith);
            accepts = λ s small. absurd (omega arith);
          })

    pub tells_member : (read cs : Text) (i : ℕ) → scalars cs ≡ true → i < length states →
        ((s : State) (u : Text) → LeftAt p states i s u ↔ Member p (read ++ u)) →
        TellsMember (state_behind cells i (encodes cs)) states (Member p (read ++ cs))
    tells_member read [] i scalar lt kept =
        record {
          refused = λ e. absurd (omega (arith, of.few));
          within = λ small. lt;
          accepts = λ s small.
              let accepts = state_accepts p counts false states cells of i (slice_index_or states i s) s lt
              refl in (
                λ h. (kept s []).0 (accepts.0 h),
                λ m. accepts.1 ((kept s []).1 m),
              );
        }
    tells_member read (c ∷ cs) i scalar lt kept =
        let here = both _ _ scalar in
        let stepped = reads_char cells (length states) full (unrolled p) false states of refl i c lt
        (is_char c here.0) (is_small c here.0) (encodes cs) in
        subst (λ n. TellsMember n states (Member p (read ++ c ∷ cs))) (sym stepped.1)
        (member_more read cs c i lt kept stepped.0 (tells_member (read ++ c ∷ []) cs stepped.0
        here.1) stepped.2
        (cases_lt stepped.0 254))

-- ---- the same of the bytes of a text, from the start

some_state : (states : List State) → 0 < length states → State
some_state [] some = absurd (omega arith)
some_state (s ∷ states) some = s

module _ (p : Pattern) (counts : HasCounts p) (states : List State) (cells : List ℕ)
    (full : length cells ≡ length states * 256) (some : 0 < length states) (bytes : List ℕ)
    (utf8 : IsUtf8 bytes) (n : ℕ) (e : n ≡ state_behind cells 0 bytes) where
  spelled : state_behind cells 0 (encodes (chars bytes)) ≡ n
  spelled = ap (state_behind cells 0) (encodes-chars bytes utf8) ∙ sym e

  pub found_by : IsDfaOf (unrolled p) true states cells → (s : State) → s ≡ slice_index_or states 0 s
      → s.accepts ≡ false → TellsFound n (HasPart p (chars bytes))
  found_by of s at no_match =
      subst (λ k. TellsFound k (HasPart p (chars bytes))) spelled
      (tells_found p counts states cells s full of (ap (λ x. x.accepts) (sym at) ∙ no_match) [] (chars bytes)
      0 (scalars-chars bytes utf8) some (ap (λ x. x.accepts) (sym at) ∙ no_match)
      (λ d u. (
        λ h. (began_first p u).0 ((start_left p states of.known some d u).0 h),
        λ h. (start_left p states of.known some d u).1 ((began_first p u).1 h),
      )) (no_part_first p))

  pub member_by : IsDfaOf (unrolled p) false states cells → TellsMember n states (Member p (chars bytes))
  member_by of =
      subst (λ k. TellsMember k states (Member p (chars bytes))) spelled
      (tells_member p counts states cells (some_state states some) full of [] (chars bytes) 0
      (scalars-chars bytes utf8) some
      (λ d u. start_left p states of.known some d u))

-- where the start accepts, every text has a part
pub found_at_once : (p : Pattern) (counts : HasCounts p) (states : List State) (cells : List ℕ)
    (text : Text) → 0 < length states → IsDfaOf (unrolled p) true states cells → (s : State)
    → s ≡ slice_index_or states 0 s → s.accepts ≡ true → HasPart p text
found_at_once p counts states cells text some of s at accepts =
    let here = (state_accepts p counts true states cells of 0 s s some at).0 accepts in
    began_found p text [] text refl ((began_first p []).0
    ((start_left p states of.known some s []).0 (left_state p states 0 s s at [] here)))
