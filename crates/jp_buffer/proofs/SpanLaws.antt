-- Lines that stand one behind another.
use Rattle.std.proofs.Common.{◌≡◌, ℕ, zero, suc, ◌+◌, ◌≤◌, List, [], ◌∷◌, ◌++◌, refl, sym, ◌∙◌, ap}
use Rattle.std.proofs.Common.{take, drop, length, arith, length-append, length-drop}
use Rattle.std.proofs.lemmas.List.{take_all, take-append-le, drop-append-le, take-take, drop-take, drop-drop}
use Rattle.std.proofs.lemmas.List.{nil_from_length, length-take-le}
use Rattle.jp_buffer.specs.Buffered.{total_bytes}
use Rattle.jp_buffer.specs.inner.Waiting.{bytes_of, lines_in}
use Rattle.jp_buffer.specs.declared.waiting.Span.{Span}

pub lines_count : (bytes : List ℕ) (spans : List Span) → length (lines_in bytes spans) ≡ length spans
lines_count bytes [] = refl
lines_count bytes (s ∷ ss) = ap suc (lines_count (drop s.len bytes) ss)

pub bytes_push : (spans : List Span) (s : Span) → bytes_of (spans ++ s ∷ []) ≡ bytes_of spans + s.len
bytes_push [] s = omega arith
bytes_push (t ∷ ts) s = omega (arith, bytes_push ts s)

pub bytes_parts : (k : ℕ) (spans : List Span) → bytes_of (take k spans) + bytes_of (drop k spans)
    ≡ bytes_of spans
bytes_parts zero spans = omega arith
bytes_parts (suc k) [] = refl
bytes_parts (suc k) (s ∷ ss) = omega (arith, bytes_parts k ss)

pub lines_push : (bytes line : List ℕ) (spans : List Span) (n : ℕ) → length bytes ≡ bytes_of spans
    → lines_in (bytes ++ line) (spans ++ record { number = n; len = length line } ∷ [])
    ≡ lines_in bytes spans ++ (n, line) ∷ []
lines_push bytes line [] n h =
    rw (nil_from_length bytes h) (ap (λ l. (n, l) ∷ []) (take_all (length line) line (omega arith)))
lines_push bytes line (s ∷ ss) n h =
    let low : s.len ≤ length bytes = omega arith in
    rw (take-append-le s.len bytes line low, drop-append-le s.len bytes line low)
    (ap (λ ls. (s.number, take s.len bytes) ∷ ls)
    (lines_push (drop s.len bytes) line ss n (omega (arith, length-drop s.len bytes))))

pub lines_front : (k : ℕ) (bytes : List ℕ) (spans : List Span)
    → lines_in (take (bytes_of (take k spans)) bytes) (take k spans) ≡ take k (lines_in bytes spans)
lines_front zero bytes spans = refl
lines_front (suc k) bytes [] = refl
lines_front (suc k) bytes (s ∷ ss) =
    let m = bytes_of (take k ss) in
    rw (take-take s.len (s.len + m) bytes (omega arith), drop-take s.len m bytes)
    (ap (λ ls. (s.number, take s.len bytes) ∷ ls) (lines_front k (drop s.len bytes) ss))

pub lines_behind : (k : ℕ) (bytes : List ℕ) (spans : List Span)
    → lines_in (drop (bytes_of (take k spans)) bytes) (drop k spans) ≡ drop k (lines_in bytes spans)
lines_behind zero bytes spans = refl
lines_behind (suc k) bytes [] = refl
lines_behind (suc k) bytes (s ∷ ss) =
    ap (λ l. lines_in l (drop k ss)) (sym (drop-drop (bytes_of (take k ss)) s.len bytes))
    ∙ lines_behind k (drop s.len bytes) ss

-- what is kept at the front
pub kept_front : (k : ℕ) (bytes kept : List ℕ) (spans left : List Span) → length bytes ≡ bytes_of spans
    → kept ≡ take (bytes_of (take k spans)) bytes → left ≡ take k spans
    → (length kept ≡ bytes_of left) × (lines_in kept left ≡ take k (lines_in bytes spans))
kept_front k bytes kept spans left h e f = (
  ap length e ∙ length-take-le (bytes_of (take k spans)) bytes (omega (arith, bytes_parts k spans, h))
      ∙ ap bytes_of (sym f),
  ap (λ l. lines_in l left) e ∙ ap (λ ss. lines_in (take (bytes_of (take k spans)) bytes) ss) f
      ∙ lines_front k bytes spans,
)

-- what is left behind the front
pub kept_behind : (k : ℕ) (bytes kept : List ℕ) (spans left : List Span) → length bytes ≡ bytes_of spans
    → kept ≡ drop (bytes_of (take k spans)) bytes → left ≡ drop k spans
    → (length kept ≡ bytes_of left) × (lines_in kept left ≡ drop k (lines_in bytes spans))
kept_behind k bytes kept spans left h e f = (
  omega (
    arith,
    ap length e,
    length-drop (bytes_of (take k spans)) bytes,
    bytes_parts k spans,
    h,
    ap bytes_of f,
  ),
  ap (λ l. lines_in l left) e ∙ ap (λ ss. lines_in (drop (bytes_of (take k spans)) bytes) ss) f
      ∙ lines_behind k bytes spans,
)

-- a line behind the others
pub added_line : (bytes out line : List ℕ) (spans more : List Span) (n : ℕ) → length bytes ≡ bytes_of spans
    → out ≡ bytes ++ line → more ≡ spans ++ record { number = n; len = length line } ∷ []
    → (length out ≡ bytes_of more) × (lines_in out more ≡ lines_in bytes spans ++ (n, line) ∷ [])
added_line bytes out line spans more n h e f = (
  omega (
    arith,
    ap length e,
    length-append bytes line,
    ap bytes_of f,
    bytes_push spans (record { number = n; len = length line }),
    h,
  ),
  ap (λ l. lines_in l more) e ∙ ap (λ ss. lines_in (bytes ++ line) ss) f ∙ lines_push bytes line spans n h,
)

pub total_in : (bytes : List ℕ) (spans : List Span) → length bytes ≡ bytes_of spans
    → total_bytes (lines_in bytes spans) ≡ bytes_of spans
total_in bytes [] e = refl
total_in bytes (s ∷ ss) e = omega (
  arith,
  length-take-le s.len bytes (omega (arith, e)),
  total_in (drop s.len bytes) ss (omega (arith, e, length-drop s.len bytes)),
)

-- where there is no line there is no span
pub no_spans : (bytes : List ℕ) (spans : List Span) → lines_in bytes spans ≡ [] → spans ≡ []
no_spans bytes [] e = refl
no_spans bytes (s ∷ ss) e = absurd cc

-- a line alone
pub only_line : (out line : List ℕ) (spans more : List Span) (n : ℕ) (count : ℕ) → spans ≡ []
    → out ≡ line → count ≡ length line → more ≡ spans ++ record { number = n; len = count } ∷ []
    → (length out ≡ bytes_of more) × (lines_in out more ≡ (n, line) ∷ [])
only_line out line spans more n count none e l f =
    added_line [] out line [] more n refl e
    (f ∙ ap (λ ss. ss ++ record { number = n; len = count } ∷ []) none
    ∙ ap (λ k. record { number = n; len = k } ∷ []) l)
