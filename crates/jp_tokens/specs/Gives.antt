-- What a call that reads ensures, by its definition in `Reading`. No clause of `read_query` names this file.
use Rattle.std.specs.Prelude.{◌≡◌, ℕ, List, Option, Some, None, Result, Ok, Err}
use Rattle.std.specs.Borrow.{Bor}
use Rattle.std.specs.Str.{chars}
use Rattle.jp_tree.specs.Tree.{Text}
use Rattle.jp_tree.specs.declared.fault.QueryFault.{QueryFault}
use Rattle.jp_tree.specs.declared.fault.QueryFault.TheVariants as faults

-- what a fault says of the reading: `Syntax` that nothing is read, `Memory` nothing; no other fault comes
abbrev pub Fails : {Y : Type 0} → QueryFault → Option Y → Type 0
Fails faults.Memory read = Unit {0}
Fails faults.Syntax read = read ≡ None
Fails faults.TooDeep read = ⊥
Fails faults.Fraction read = ⊥
Fails faults.Range read = ⊥
Fails faults.IllTyped read = ⊥

-- the same of a function that takes no memory: its only fault is `Syntax`, where nothing is read
abbrev pub Refuses : {Y : Type 0} → QueryFault → Option Y → Type 0
Refuses faults.Memory read = ⊥
Refuses faults.Syntax read = read ≡ None
Refuses faults.TooDeep read = ⊥
Refuses faults.Fraction read = ⊥
Refuses faults.Range read = ⊥
Refuses faults.IllTyped read = ⊥

-- what reading gives, unless memory fails
abbrev pub Gives : {X Y : Type 0} → (X → Y) → Result X QueryFault → Option Y → Type 0
Gives view (Ok x) read = read ≡ Some (view x)
Gives view (Err e) read = Fails e read

-- what reading gives, by a function that takes no memory
abbrev pub Reads : {X Y : Type 0} → (X → Y) → Result X QueryFault → Option Y → Type 0
Reads view (Ok x) read = read ≡ Some (view x)
Reads view (Err e) read = Refuses e read

-- the same of what is read at the front of a text, with the rest
abbrev pub GivesFront : {X Y : Type 0} → (X → Y) → Result (X × Bor (List ℕ)) QueryFault → Option (Y × Text)
    → Type 0
GivesFront view r read = Gives (λ x. (view x.0, chars x.1.now)) r read

abbrev pub ReadsFront : {X Y : Type 0} → (X → Y) → Result (X × Bor (List ℕ)) QueryFault → Option (Y × Text)
    → Type 0
ReadsFront view r read = Reads (λ x. (view x.0, chars x.1.now)) r read

-- the same where what is read is a part of the text
abbrev pub ReadsText : Result (Bor (List ℕ) × Bor (List ℕ)) QueryFault → Option (Text × Text) → Type 0
ReadsText r read = Reads (λ x. (chars x.0.now, chars x.1.now)) r read

-- the same of the rest alone
abbrev pub ReadsRest : Result (Bor (List ℕ)) QueryFault → Option Text → Type 0
ReadsRest r read = Reads (λ x. chars x.now) r read
