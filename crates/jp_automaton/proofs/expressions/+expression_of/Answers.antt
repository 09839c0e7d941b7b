use Rattle.std.proofs.Common.{[], ◌∷◌, map, IsTrue, min, ap, ◌∙◌, sym, subst, refl}
use Rattle.std.proofs.lemmas.List.{map-append}
use Rattle.jp_pattern.specs.Pattern.{Pattern}
use Rattle.jp_pattern.specs.Profile.{size}
use Rattle.jp_pattern.specs.Tree.{node_of, set_of}
use Rattle.jp_automaton.specs.Expressions.{Meaning, meaning, pattern_in, patterns_in}
use Rattle.jp_automaton.specs.Letters.{letters_of}
use Rattle.jp_automaton.specs.inner.Simpler.{HasEmpty, StandsFor}
use Rattle.jp_pattern.proofs.NodeLemmas.{node_pieces, node_branches}
use Rattle.jp_automaton.proofs.LeftOutLemmas.{piece_step, branch_step, is_empty_size}
use Rattle.jp_automaton.proofs.MeaningLemmas.{expression_pieces, expression_branches, expression_repeat}
use Rattle.jp_automaton.proofs.MeaningLemmas.{expression_plus, expression_set}
use Rattle.jp_automaton.proofs.NodeKindLemmas.{node_plus, node_repeat, node_set}
use Rattle.jp_automaton.proofs.SimplerLemmas.{stands_letter, stands_as, stands_repeat}
use Rattle.jp_automaton.proofs.SimplerLemmas.{stands_plus, stands_through, stands_last, all_pieces}
use Rattle.jp_automaton.proofs.SimplerLemmas.{all_branches, no_branches, empty_first}
use Rattle.jp_automaton.proofs.SizedLemmas.{sized_from, sized_pieces, sized_branches, sized_repeat}
use Rattle.jp_automaton.proofs.SizedLemmas.{in_turn_of-patterns, before_last_of-patterns}
use Rattle.jp_automaton.proofs.expressions.+expression_of.Goals as goal

is_sized : Meaning → Type 0
is_sized m = IsTrue m.is_sized

pub expression_of-returns-in_ok-letters-in-Set-clause-same
    : goal.expression_of-returns-in_ok-letters-in-Set-clause-same
expression_of-returns-in_ok-letters-in-Set-clause-same t c =
    let set = c.in_ok-letters-in-Set.field-0 in
    stands_as _ _ _ _ (ap node_of c.in-Set.is ∙ node_set c.in-Set.set)
    (ap (λ m. m.pattern) (expression_set set))
    (stands_letter (set_of c.in-Set.set) (letters_of set) c.in_ok-letters-in-Set.ensures)

pub expression_of-returns-in_ok-new-in-Repeat-clause-same
    : goal.expression_of-returns-in_ok-new-in-Repeat-clause-same
expression_of-returns-in_ok-new-in-Repeat-clause-same t c =
    let atom = c.in_ok-new-in-Repeat.field-0 in
    let of_atom : StandsFor (node_of c.in-Repeat.atom.value) (pattern_in atom.value) =
    stands_as _ _ _ _ (ap node_of (sym c.into_inner-in-Repeat.ensures))
    (ap pattern_in c.in_ok-new-in-Repeat.ensures.ok) c.in_ok-atom-in-Repeat.ensures.same in
    stands_as _ _ _ _ (ap node_of c.in-Repeat.is ∙ node_repeat c.in-Repeat.least c.in-Repeat.most
    c.in-Repeat.atom)
    (ap (λ m. m.pattern) (expression_repeat c.saturating_mul-size.result c.in-Repeat.least c.in-Repeat.most
    atom))
    (stands_repeat _ _ c.in-Repeat.least c.in-Repeat.most of_atom)

pub expression_of-returns-in_ok-new-in-Plus-clause-same
    : goal.expression_of-returns-in_ok-new-in-Plus-clause-same
expression_of-returns-in_ok-new-in-Plus-clause-same t c =
    let atom = c.in_ok-new-in-Plus.field-0 in
    let of_atom : StandsFor (node_of c.in-Plus.atom.value) (pattern_in atom.value) =
    stands_as _ _ _ _ (ap node_of (sym c.into_inner-in-Plus.ensures))
    (ap pattern_in c.in_ok-new-in-Plus.ensures.ok) c.in_ok-atom-in-Plus.ensures.same in
    stands_as _ _ _ _ (ap node_of c.in-Plus.is ∙ node_plus c.in-Plus.atom)
    (ap (λ m. m.pattern) (expression_plus c.size-size-in-Plus.result atom)) (stands_plus _ _ of_atom)

pub expression_of-returns-in_ok-pieces-in-Pieces-clause-same
    : goal.expression_of-returns-in_ok-pieces-in-Pieces-clause-same
expression_of-returns-in_ok-pieces-in-Pieces-clause-same t c =
    let nodes = c.in-Pieces.pieces in
    let pieces = c.in_ok-pieces-in-Pieces.pieces in
    stands_as _ _ _ _ (ap node_of c.in-Pieces.is ∙ node_pieces nodes)
    (ap (λ m. m.pattern) (expression_pieces c.size_of_all-size.result pieces)
    ∙ in_turn_of-patterns pieces.items)
    (all_pieces (map node_of nodes.items) (patterns_in pieces.items) c.in_ok-pieces-in-Pieces.ensures.same)

pub expression_of-returns-in_ok-pieces-in-Pieces-clause-sized
    : goal.expression_of-returns-in_ok-pieces-in-Pieces-clause-sized
unfolding is_sized
expression_of-returns-in_ok-pieces-in-Pieces-clause-sized t c =
    let e = rw c.deref.ensures.value at c.size_of_all-size.ensures in
    subst is_sized (sym (expression_pieces c.size_of_all-size.result c.in_ok-pieces-in-Pieces.pieces))
    (sized_pieces c.in_ok-pieces-in-Pieces.pieces.items c.size_of_all-size.result e
    c.in_ok-pieces-in-Pieces.ensures.sized)

pub expression_of-returns-in_ok-new-in-Branches-clause-same
    : goal.expression_of-returns-in_ok-new-in-Branches-clause-same
expression_of-returns-in_ok-new-in-Branches-clause-same t c =
    let nodes = c.in-Branches.before in
    let before = c.in_ok-before-in-Branches.before in
    let last = c.in_ok-new-in-Branches.field-0 in
    let ps = map node_of nodes.items in
    let qs = patterns_in before.items in
    let from = node_of c.in-Branches.last.value in
    let to = pattern_in last.value in
    let of_last : StandsFor from to = stands_as _ _ _ _ (ap node_of (sym c.into_inner-in-Branches.ensures))
    (ap pattern_in c.in_ok-new-in-Branches.ensures.ok) c.in_ok-last-in-Branches.ensures.same in
    let none = is_empty_size c.in_ok-last-in-Branches.last last.value c.size.result
    c.in_ok-new-in-Branches.ensures.ok c.size.ensures in
    stands_as _ _ _ _ (ap node_of c.in-Branches.is ∙ node_branches nodes c.in-Branches.last)
    (ap (λ m. m.pattern) (expression_branches c.saturating_add-size.result before last)
    ∙ before_last_of-patterns before.items to)
    (stands_through _ _ _ (stands_last ps from to of_last)
    (all_branches _ ps qs to c.in_ok-before-in-Branches.ensures.same none))

pub expression_of-returns-in_ok-new-in-Branches-clause-sized
    : goal.expression_of-returns-in_ok-new-in-Branches-clause-sized
unfolding is_sized
expression_of-returns-in_ok-new-in-Branches-clause-sized t c =
    let before = c.in_ok-before-in-Branches.before in
    let last = c.in_ok-new-in-Branches.field-0 in
    let same = sym c.in_ok-new-in-Branches.ensures.ok in
    let e = rw c.deref-in-Branches.ensures.value at c.size_of_all.ensures in
    subst is_sized (sym (expression_branches c.saturating_add-size.result before last))
    (sized_branches before.items last.value c.saturating_add-size.result c.size_of_all.result
    c.size-in-Branches.result e
    (c.size-in-Branches.ensures ∙ ap (λ p. min (size (pattern_in p)) 4_294_967_295) same)
    c.saturating_add-size.ensures
    c.in_ok-before-in-Branches.ensures.sized (subst (λ p. IsTrue (meaning p).is_sized) same
    c.in_ok-last-in-Branches.ensures.sized))

pub expression_of-returns-in_ok-new-in-Repeat-clause-sized
    : goal.expression_of-returns-in_ok-new-in-Repeat-clause-sized
unfolding is_sized
expression_of-returns-in_ok-new-in-Repeat-clause-sized t c =
    let atom = c.in_ok-new-in-Repeat.field-0 in
    let same = sym c.in_ok-new-in-Repeat.ensures.ok in
    subst is_sized (sym (expression_repeat c.saturating_mul-size.result c.in-Repeat.least c.in-Repeat.most
    atom))
    (sized_repeat c.in-Repeat.least c.in-Repeat.most atom.value c.saturating_mul-size.result c.copies.result
    c.size-in-Repeat.result
    c.copies.ensures (c.size-in-Repeat.ensures ∙ ap (λ p. min (size (pattern_in p)) 4_294_967_295) same)
    c.saturating_mul-size.ensures
    (subst (λ p. IsTrue (meaning p).is_sized) same c.in_ok-atom-in-Repeat.ensures.sized))

pub expression_of-returns-in_ok-new-in-Plus-clause-sized
    : goal.expression_of-returns-in_ok-new-in-Plus-clause-sized
unfolding is_sized
expression_of-returns-in_ok-new-in-Plus-clause-sized t c =
    let atom = c.in_ok-new-in-Plus.field-0 in
    let same = sym c.in_ok-new-in-Plus.ensures.ok in
    subst is_sized (sym (expression_plus c.size-size-in-Plus.result atom))
    (sized_from c.size-size-in-Plus.result (Pattern.plus (pattern_in atom.value)) _
    (c.size-size-in-Plus.ensures ∙ ap (λ p. min (size (pattern_in p)) 4_294_967_295) same)
    (subst (λ p. IsTrue (meaning p).is_sized) same c.in_ok-atom-in-Plus.ensures.sized))

pub pieces_of-loop-node-preserved : goal.pieces_of-loop-node-preserved
pieces_of-loop-node-preserved t c =
    let kept = c.loop-node.invariant in
    let piece = c.in_ok-piece.piece in
    let next = piece_step _ (map node_of c.loop-node.yielded) c.loop-node.pieces.items
    c.push_unless.new.expressions.items (node_of c.in-Some.node) piece c.in_ok-push_unless.ensures kept.0
    kept.1 c.in_ok-piece.ensures.same c.in_ok-piece.ensures.sized
    (is_empty_size piece piece c.size-is_empty.result refl c.size-is_empty.ensures) in (
      rw (map-append node_of c.loop-node.yielded (c.in-Some.node ∷ [])) next.0,
      next.1,
    )

pub branches_of-loop-node-init : goal.branches_of-loop-node-init
branches_of-loop-node-init t c =
    rw c.new-branches.ensures.items
    (no_branches c.args.is_last_empty, refl, empty_first c.args.is_last_empty)

pub branches_of-loop-node-preserved : goal.branches_of-loop-node-preserved
branches_of-loop-node-preserved t c =
    let kept = c.loop-node.invariant in
    let branch = c.in_ok-branch.branch in
    let next = branch_step c.args.is_last_empty c.loop-node.has_empty _ c.both.result
    (map node_of c.loop-node.yielded) c.loop-node.branches.items
    c.push_unless.new.expressions.items (node_of c.in-Some.node) branch c.in_ok-push_unless.ensures
    c.both.ensures (is_empty_size branch branch c.size-is_empty.result refl c.size-is_empty.ensures) kept.0
    kept.1 kept.2
    c.in_ok-branch.ensures.same c.in_ok-branch.ensures.sized in (
      rw (map-append node_of c.loop-node.yielded (c.in-Some.node ∷ [])) next.0,
      next.1,
      subst (λ b. HasEmpty c.args.is_last_empty b (patterns_in c.push_unless.new.expressions.items))
          (sym c.either-has_empty.ensures) next.2,
    )
