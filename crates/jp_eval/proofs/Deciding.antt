-- What is there, of a value that may be.
use Rattle.std.proofs.Common.{◌≡◌, Option, Some, None, is_some, option_map, refl}
use Rattle.std.specs.Option.{IfSome}

-- what is said of a value, where there is one
pub some_of : {T : Type 0} (P : T → Type 0) (o : Option T) (x : T) → o ≡ Some x → IfSome o P → P x
some_of P o x e h = rw e at h

pub mapped_some : {A B : Type 0} (f : A → B) (o : Option A) → is_some o ≡ is_some (option_map f o)
mapped_some f None = refl
mapped_some f (Some x) = refl
