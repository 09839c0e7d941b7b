-- Escapes, and what stands for a text that has some.
use Rattle.std.proofs.Common.{◌≡◌, ℕ, ◌+◌, ◌*◌, ◌-◌, ◌<◌, ◌≤◌, true, false, List, [], ◌∷◌, ◌++◌}
use Rattle.std.proofs.Common.{length, drop, get_or, Some, refl, sym, ap, ◌∙◌, subst, arith}
use Rattle.std.proofs.Common.{append_assoc, append-nil, ne_eqb, lt-ltb, add-zero, zero, suc}
use Rattle.std.specs.Char.{digit_value, encode_utf8}
use Rattle.std.specs.List.{prefix_len}
use Rattle.json.specs.Lex.{lex, in_string}
use Rattle.json.specs.Run.{is_plain}
use Rattle.json.specs.Text.{content, code_unit, short_escape, is_high_surrogate}
use Rattle.json.specs.Text.{is_low_surrogate, surrogate_pair}
use Rattle.jp_flat_nodes.specs.Nodes.{piece}
use Rattle.jp_flat_nodes.specs.inner.Reads.{IsEscape, IsUnit, IsWritten, Stands}
use Rattle.jp_flat_nodes.proofs.Cuts.{byte_then, cut, run_stands, plain_passed, stands_both, nothing_stands}

-- ---- a text, part by part

pub nothing_written : (line : List ℕ) (from : ℕ) (texts : List ℕ) → from ≤ length line
    → IsWritten line from from texts texts
nothing_written line from texts h = record {
  more = [];
  behind = sym (append-nil texts);
  ordered = omega arith;
  inside = h;
  part = [];
  text = refl;
  stands = nothing_stands;
}

more_written : (line : List ℕ) (from at end : ℕ) (old now new part text : List ℕ)
    → IsWritten line from at old now → new ≡ now ++ text → at ≤ end → end ≤ length line
    → drop at line ≡ part ++ drop end line → Stands part text → IsWritten line from end old new
more_written line from at end old now new part text w made later inside is stands = record {
  more = w.more ++ text;
  behind = made ∙ ap (λ l. l ++ text) w.behind ∙ append_assoc old w.more text;
  ordered = omega (arith, w.ordered);
  inside = inside;
  part = w.part ++ part;
  text = w.text ∙ ap (λ l. w.part ++ l) is ∙ sym (append_assoc w.part part (drop end line));
  stands = stands_both w.part part w.more text w.stands stands;
}

-- bytes that stand for themselves
pub run_written : (line : List ℕ) (from at stop : ℕ) (old now new : List ℕ) → IsWritten line from at old now
    → stop ≡ at + prefix_len is_plain (drop at line) → stop ≤ length line
    → new ≡ now ++ piece line at (stop - at) → IsWritten line from stop old new
run_written line from at stop old now new w is inside made =
    let run = piece line at (stop - at) in
    more_written line from at stop old now new run run w made (omega arith) inside
    (cut line at stop (omega arith)) (run_stands (drop at line) (stop - at) (omega arith))

-- and an escape
pub escape_written : (line : List ℕ) (from at letter end : ℕ) (old now new : List ℕ)
    → IsWritten line from at old now → IsEscape line at letter end → new ≡ now ++ encode_utf8 letter
    → IsWritten line from end old new
escape_written line from at letter end old now new w e made =
    more_written line from at end old now new e.part (encode_utf8 letter) w made (omega (arith, e.later))
    e.inside e.text e.stands

-- ---- one escape

pub ascii_alone : (x : ℕ) → x < 128 → encode_utf8 x ≡ x ∷ []
unfolding encode_utf8
ascii_alone x h = rw (lt-ltb x 128 h) refl

short_stands : (letter byte : ℕ) → (letter ≡ 117 → ⊥) → short_escape letter ≡ Some byte
    → Stands (92 ∷ letter ∷ []) (byte ∷ [])
unfolding content lex
short_stands letter byte other is = record {
  means = λ r. rw (ne_eqb letter 117 other, is) refl;
  passed = λ r. refl;
}

pub short_read : (line : List ℕ) (at letter byte : ℕ) → at < length line → get_or line at 0 ≡ 92
    → at + 1 < length line → get_or line (at + 1) 0 ≡ letter → (letter ≡ 117 → ⊥)
    → short_escape letter ≡ Some byte → encode_utf8 byte ≡ byte ∷ [] → IsEscape line at byte (at + 2)
short_read line at letter byte inside first more is other means ascii =
    let end : at + 1 + 1 ≡ at + 2 = omega arith in
    record {
      later = omega arith;
      inside = omega arith;
      part = 92 ∷ letter ∷ [];
      text = byte_then line at 92 inside first
          ∙ ap (λ l. 92 ∷ l) (byte_then line (at + 1) letter more is ∙ ap (λ k. letter ∷ drop k line) end);
      stands = subst (Stands (92 ∷ letter ∷ [])) (sym ascii) (short_stands letter byte other means);
    }

-- four digits, by the value of each
pub unit_is : (line : List ℕ) (at a b c d : ℕ) → a < 16 → b < 16 → c < 16 → d < 16
    → digit_value (get_or line at 0) ≡ a → digit_value (get_or line (at + 1) 0) ≡ b
    → digit_value (get_or line (at + 2) 0) ≡ c → digit_value (get_or line (at + 3) 0) ≡ d
    → is_plain (get_or line at 0) ≡ true → is_plain (get_or line (at + 1) 0) ≡ true
    → is_plain (get_or line (at + 2) 0) ≡ true → is_plain (get_or line (at + 3) 0) ≡ true
    → IsUnit line at (a * 4096 + b * 256 + c * 16 + d)
unfolding code_unit
unit_is line at a b c d ha hb hc hd va vb vc vd pa pb pc pd = record {
  is = rw (va, vb, vc, vd, lt-ltb a 16 ha, lt-ltb b 16 hb, lt-ltb c 16 hc, lt-ltb d 16 hd) refl;
  small = omega arith;
  are_plain = each;
}
  where
    each : (i : ℕ) → i < 4 → is_plain (get_or line (at + i) 0) ≡ true
    each zero h = ap (λ k. is_plain (get_or line k 0)) (add-zero at) ∙ pa
    each (suc zero) h = pb
    each (suc (suc zero)) h = pc
    each (suc (suc (suc zero))) h = pd
    each (suc (suc (suc (suc i)))) h = absurd (omega arith)

-- the six bytes of `\u` and four digits
unit_bytes : (line : List ℕ) (at : ℕ) → List ℕ
unit_bytes line at =
    92 ∷ 117 ∷ get_or line (at + 2) 0 ∷ get_or line (at + 2 + 1) 0 ∷ get_or line (at + 2 + 2) 0
    ∷ get_or line (at + 2 + 3) 0 ∷ []

six : (line : List ℕ) (at : ℕ) → at + 6 ≤ length line → get_or line at 0 ≡ 92 → get_or line (at + 1) 0 ≡ 117
    → drop at line ≡ unit_bytes line at ++ drop (at + 6) line
unfolding unit_bytes
six line at h first second =
    let next : (j k : ℕ) → k ≡ j + 1 → j < length line → drop j line ≡ get_or line j 0 ∷ drop k line = λ j k
    e l.
    byte_then line j (get_or line j 0) l refl ∙ ap (λ n. get_or line j 0 ∷ drop n line) (sym e) in
    byte_then line at 92 (omega arith) first
    ∙ ap (λ l. 92 ∷ l) (byte_then line (at + 1) 117 (omega arith) second)
    ∙ ap (λ k. 92 ∷ 117 ∷ drop k line) (omega arith)
    ∙ ap (λ l. 92 ∷ 117 ∷ l) (next (at + 2) (at + 2 + 1) refl (omega arith)
    ∙ ap (λ l. get_or line (at + 2) 0 ∷ l) (next (at + 2 + 1) (at + 2 + 2) (omega arith) (omega arith)
    ∙ ap (λ l. get_or line (at + 2 + 1) 0 ∷ l) (next (at + 2 + 2) (at + 2 + 3) (omega arith) (omega arith)
    ∙ ap (λ l. get_or line (at + 2 + 2) 0 ∷ l) (next (at + 2 + 3) (at + 6) (omega arith) (omega arith)))))

digits_passed : (line : List ℕ) (at unit : ℕ) (r : List ℕ) → IsUnit line (at + 2) unit
    → lex in_string (unit_bytes line at ++ r) ≡ lex in_string r
unfolding unit_bytes lex
digits_passed line at unit r u =
    let none : at + 2 + 0 ≡ at + 2 = omega arith in
    let a = get_or line (at + 2) 0 in
    let b = get_or line (at + 2 + 1) 0 in
    let c = get_or line (at + 2 + 2) 0 in
    let d = get_or line (at + 2 + 3) 0 in
    plain_passed a (b ∷ c ∷ d ∷ r) (subst (λ i. is_plain (get_or line i 0) ≡ true) none (u.are_plain 0
    (omega arith)))
    ∙ plain_passed b (c ∷ d ∷ r) (u.are_plain 1 (omega arith)) ∙ plain_passed c (d ∷ r) (u.are_plain 2
    (omega arith))
    ∙ plain_passed d r (u.are_plain 3 (omega arith))

pub unit_read : (line : List ℕ) (at unit : ℕ) → at + 6 ≤ length line → get_or line at 0 ≡ 92
    → get_or line (at + 1) 0 ≡ 117 → IsUnit line (at + 2) unit → is_high_surrogate unit ≡ false
    → is_low_surrogate unit ≡ false → IsEscape line at unit (at + 6)
unfolding content unit_bytes
unit_read line at unit inside first second u high low = record {
  later = omega arith;
  inside = inside;
  part = unit_bytes line at;
  text = six line at inside first second;
  stands = record {
    means = λ r. rw (u.is, high, low) refl;
    passed = λ r. digits_passed line at unit r u;
  };
}

pub pair_read : (line : List ℕ) (at high low : ℕ) → at + 12 ≤ length line → get_or line at 0 ≡ 92
    → get_or line (at + 1) 0 ≡ 117 → get_or line (at + 6) 0 ≡ 92 → get_or line (at + 7) 0 ≡ 117
    → IsUnit line (at + 2) high → IsUnit line (at + 8) low → is_high_surrogate high ≡ true
    → is_low_surrogate low ≡ true → IsEscape line at (surrogate_pair high low) (at + 12)
unfolding content unit_bytes
pair_read line at high low inside first second third fourth u v h l =
    let seven : at + 7 ≡ at + 6 + 1 = omega arith in
    let eight : at + 8 ≡ at + 6 + 2 = omega arith in
    let twelve : at + 6 + 6 ≡ at + 12 = omega arith in
    let w = subst (λ i. IsUnit line i low) eight v in
    record {
      later = omega arith;
      inside = inside;
      part = unit_bytes line at ++ unit_bytes line (at + 6);
      text = six line at (omega arith) first second
          ∙ ap (λ l. unit_bytes line at ++ l) (six line (at + 6) (omega arith) third
          (ap (λ i. get_or line i 0) (sym seven) ∙ fourth)
          ∙ ap (λ k. unit_bytes line (at + 6) ++ drop k line) twelve)
          ∙ sym (append_assoc (unit_bytes line at) (unit_bytes line (at + 6)) (drop (at + 12) line));
      stands = record {
        means = λ r. rw (u.is, h, w.is, l) refl;
        passed = λ r. ap (lex in_string) (append_assoc (unit_bytes line at) (unit_bytes line (at + 6)) r)
            ∙ digits_passed line at high (unit_bytes line (at + 6) ++ r) u
            ∙ digits_passed line (at + 6) low r w;
      };
    }
