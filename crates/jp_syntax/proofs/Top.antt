-- What reading gives, in the words of the grammar.
use Rattle.std.proofs.Common.{◌≡◌, ℕ, ◌≤◌, ◌<◌, length, Option, Some, None, Result, Ok, Err, sym, ◌∙◌, refl}
use Rattle.std.proofs.Common.{inl, inr, ◌⊎◌, ◌↔◌}
use Rattle.std.specs.Prelude.{IfOk, IfErr, IsErrOf}
use Rattle.std.proofs.lemmas.Option.{same_Some}
use Rattle.jp_tree.specs.declared.fault.QueryFault.{QueryFault}
use Rattle.jp_tree.specs.declared.fault.QueryFault.TheVariants as faults
use Rattle.jp_tree.specs.declared.tree.Query.{Query}
use Rattle.jp_tree.specs.Tree.{Text}
use Rattle.jp_tree.specs.Tree as tree
use Rattle.jp_tree.specs.View.{query_of}
use Rattle.jp_tree.specs.Spelling.{Spells}
use Rattle.jp_tokens.specs.Depth.{bracket_depth, max_depth}
use Rattle.jp_syntax.specs.inner.Reading.{read}
use Rattle.jp_tokens.specs.Gives.{Gives}
use Rattle.jp_syntax.proofs.ReadSound.{read_sound}
use Rattle.jp_syntax.proofs.ReadWhole.{read_whole}

module _ (n : ℕ) (t : Text) (le : length t ≤ n) where
  pub is_found : (r : Result Query QueryFault) → Gives query_of r (read n t)
      → IfOk r (λ q. Spells t (query_of q))
  is_found (Ok q) g = read_sound n t (query_of q) g
  is_found (Err e) g = tt

  pub is_only : (r : Result Query QueryFault) → Gives query_of r (read n t)
      → IfOk r (λ q. (p : tree.Query) → Spells t p → p ≡ query_of q)
  is_only (Ok q) g = λ p h. same_Some p (query_of q) (sym (read_whole n t p le h) ∙ g)
  is_only (Err e) g = tt

  pub is_none : (r : Result Query QueryFault) → Gives query_of r (read n t) → IsErrOf r faults.Syntax
      → (q : tree.Query) → Spells t q → ⊥
  is_none (Ok p) g e q h = absurd cc
  is_none (Err faults.TooDeep) g e q h = g
  is_none (Err faults.Fraction) g e q h = g
  is_none (Err faults.Range) g e q h = g
  is_none (Err faults.IllTyped) g e q h = g
  is_none (Err faults.Memory) g e q h = absurd cc
  is_none (Err faults.Syntax) g e q h = let k : ◌≡◌ {A = Option tree.Query} None (Some q) = sym g
      ∙ read_whole n t q le h in absurd cc

  pub is_deep : (r : Result Query QueryFault) → Gives query_of r (read n t) → ¬ (max_depth < bracket_depth t)
      → IsErrOf r faults.TooDeep ↔ (max_depth < bracket_depth t)
  is_deep r g d = (λ e. absurd (not_deep r g e), λ h. absurd (d h))
    where
      not_deep : (r : Result Query QueryFault) → Gives query_of r (read n t) → IsErrOf r faults.TooDeep → ⊥
      not_deep (Ok p) g e = absurd cc
      not_deep (Err faults.TooDeep) g e = g
      not_deep (Err faults.Fraction) g e = g
      not_deep (Err faults.Range) g e = g
      not_deep (Err faults.IllTyped) g e = g
      not_deep (Err faults.Memory) g e = absurd cc
      not_deep (Err faults.Syntax) g e = absurd cc

  pub is_fault : (r : Result Query QueryFault) → Gives query_of r (read n t)
      → IfErr r (λ e. (e ≡ faults.TooDeep) ⊎ (e ≡ faults.Syntax) ⊎ (e ≡ faults.Memory))
  is_fault (Ok p) g = tt
  is_fault (Err faults.TooDeep) g = absurd g
  is_fault (Err faults.Fraction) g = absurd g
  is_fault (Err faults.Range) g = absurd g
  is_fault (Err faults.IllTyped) g = absurd g
  is_fault (Err faults.Memory) g = inr (inr refl)
  is_fault (Err faults.Syntax) g = inr (inl refl)
