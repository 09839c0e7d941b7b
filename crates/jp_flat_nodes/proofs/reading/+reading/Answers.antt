use Rattle.std.proofs.Common.{◌≡◌, ◌+◌, ◌-◌, ◌<◌, ◌∙◌, get_or, length, sym, ap, subst, arith, rules}
use Rattle.jp_flat_nodes.specs.Nodes.{source}
use Rattle.jp_flat_nodes.specs.inner.Reads.{Reads, ReadsOn}
use Rattle.jp_flat_nodes.specs.declared.node.FlatNode.TheVariants.{Object, Array}
use Rattle.jp_flat_nodes.proofs.Cuts.{Blanks, blanks, byte_then}
use Rattle.jp_flat_nodes.proofs.Growing.{one_longer}
use Rattle.jp_flat_nodes.proofs.Loops.{items_begin, items_more, items_close, no_items_close}
use Rattle.jp_flat_nodes.proofs.Loops.{members_begin, members_more, members_close, no_members_close}
use Rattle.jp_flat_nodes.proofs.Loops.{member_read, none_behind, value_grown, key_grown}
use Rattle.jp_flat_nodes.proofs.reading.+reading.Goals as goal

pub array-returns-then-byte_at-eq93 : goal.array-returns-then-byte_at-eq93
array-returns-then-byte_at-eq93 t c h all g =
    let line = c.args.line.now in
    let old = c.args.out.now.nodes.items in
    let closed = c.close_array.ensures (omega arith) in
    let here : c.len-place.result ≡ length old = search rules in
    let src = source line all in (
      g,
      subst (λ e. Reads src c.args.decimals c.args.at e
          (c.args.depth + 1) old c.close_array.new.nodes.items) (sym closed.0)
          (no_items_close src c.args.decimals c.args.at c.blanks_end-cursor.result c.args.depth old
          c.push.new.nodes.items
          c.close_array.new.nodes.items c.len-place.result (omega arith) c.requires.1
          (blanks line (c.args.at + 1) c.blanks_end-cursor.result c.blanks_end-cursor.ensures)
          (c.byte_at.ensures.within (λ e. omega arith)) (omega (arith, c.byte_at.ensures.value)) here
          (c.push.ensures c.if-not-push.false) closed.1),
    )

pub array-loop-cursor-init : goal.array-loop-cursor-init
array-loop-cursor-init t c =
    let line = c.args.line.now in
    let old = c.args.out.now.nodes.items in
    let opened = c.push.new.nodes.items in
    let here : c.len-place.result ≡ length old = search rules in
    record {
      items = λ all g. (
        g,
        items_begin (source line all) c.args.decimals c.args.at c.blanks_end-cursor.result c.args.depth opened
            (omega arith)
            c.requires.1 (blanks line (c.args.at + 1) c.blanks_end-cursor.result c.blanks_end-cursor.ensures),
      );
      place = omega (arith, one_longer old opened (Array 0) (c.push.ensures c.if-not-push.false));
    }

pub array-loop-cursor-preserved : goal.array-loop-cursor-preserved
array-loop-cursor-preserved t c =
    let line = c.args.line.now in
    let now = c.loop-cursor.out.nodes.items in
    let new = c.value-end.new.out.nodes.items in
    let end = c.value-end.result in
    let within = c.byte_at-in-loop-cursor.ensures.within (λ e. omega arith) in
    let v = c.value-end.ensures (omega arith) in
    let comma = byte_then line end 44 (omega arith)
    (ap (λ i. get_or line i 0) (sym c.if-stop-end.true) ∙ omega
    (arith, c.byte_at-in-loop-cursor.ensures.value)) in
    record {
      items = λ all g.
          let r = v all g in
          let s = c.loop-cursor.invariant.items all r.0 in (
            s.0,
            items_more (source line all) c.args.decimals c.args.at c.loop-cursor.cursor end
                c.blanks_end-cursor-in-44.result c.args.depth
                c.push.new.nodes.items now new s.1 r.1 comma
                (subst (λ k. Blanks line (k + 1) c.blanks_end-cursor-in-44.result) c.if-stop-end.true
                (blanks line (c.blanks_end-stop.result + 1) c.blanks_end-cursor-in-44.result
                c.blanks_end-cursor-in-44.ensures)),
          );
      place = omega (
        arith,
        c.loop-cursor.invariant.place,
        value_grown line _ _ _ _ c.loop-cursor.out
            c.value-end.new.out v,
      );
    }

pub array-close_array-requires-in-93 : goal.array-close_array-requires-in-93
array-close_array-requires-in-93 t c =
    let line = c.args.line.now in
    let within = c.byte_at-in-loop-cursor.ensures.within (λ e. omega arith) in
    let v = c.value-end.ensures (omega (arith, c.blanks_end-stop.ensures)) in
    omega (
      arith,
      c.loop-cursor.invariant.place,
      value_grown line _ _ _ _ c.loop-cursor.out c.value-end.new.out v,
    )

pub array-returns-in-93 : goal.array-returns-in-93
array-returns-in-93 t c h all g =
    let line = c.args.line.now in
    let old = c.args.out.now.nodes.items in
    let stop = c.blanks_end-stop.result in
    let within = c.byte_at-in-loop-cursor.ensures.within (λ e. omega arith) in
    let v = c.value-end.ensures (omega (arith, c.blanks_end-stop.ensures)) in
    let closed = c.close_array-in-93.ensures (omega arith) in
    let here : c.len-place.result ≡ length old = search rules in
    let src = source line all in
    let r = v all g in
    let s = c.loop-cursor.invariant.items all r.0 in (
      s.0,
      subst (λ e. Reads src c.args.decimals c.args.at e
          (c.args.depth + 1) old c.close_array-in-93.new.nodes.items)
          (sym closed.0)
          (items_close src c.args.decimals c.args.at c.loop-cursor.cursor c.value-end.result stop
          c.args.depth old
          c.push.new.nodes.items c.loop-cursor.out.nodes.items c.value-end.new.out.nodes.items
          c.close_array-in-93.new.nodes.items c.len-place.result s.1 r.1
          (blanks line c.value-end.result stop c.blanks_end-stop.ensures) within
          (omega (arith, c.byte_at-in-loop-cursor.ensures.value)) here
          (c.push.ensures c.if-not-push.false) closed.1),
    )

pub object-returns-then-byte_at-eq125 : goal.object-returns-then-byte_at-eq125
object-returns-then-byte_at-eq125 t c h all g =
    let line = c.args.line.now in
    let old = c.args.out.now.nodes.items in
    let closed = c.close_object.ensures (omega arith) in
    let here : c.len-place.result ≡ length old = search rules in
    let src = source line all in (
      g,
      subst (λ e. Reads src c.args.decimals c.args.at e
          (c.args.depth + 1) old c.close_object.new.nodes.items) (sym closed.0)
          (no_members_close src c.args.decimals c.args.at c.blanks_end-cursor.result c.args.depth old
          c.push.new.nodes.items
          c.close_object.new.nodes.items c.len-place.result (omega arith) c.requires.1
          (blanks line (c.args.at + 1) c.blanks_end-cursor.result c.blanks_end-cursor.ensures)
          (c.byte_at.ensures.within (λ e. omega arith)) (omega (arith, c.byte_at.ensures.value)) here
          (c.push.ensures c.if-not-push.false) closed.1),
    )

pub object-loop-cursor-init : goal.object-loop-cursor-init
object-loop-cursor-init t c =
    let line = c.args.line.now in
    let old = c.args.out.now.nodes.items in
    let opened = c.push.new.nodes.items in
    let here : c.len-place.result ≡ length old = search rules in
    record {
      members = λ all g. (
        g,
        members_begin (source line all) c.args.decimals c.args.at c.blanks_end-cursor.result c.args.depth
            opened
            (omega arith)
            c.requires.1 (blanks line (c.args.at + 1) c.blanks_end-cursor.result c.blanks_end-cursor.ensures),
      );
      place = omega (arith, one_longer old opened (Object 0) (c.push.ensures c.if-not-push.false));
    }

pub object-loop-cursor-preserved : goal.object-loop-cursor-preserved
object-loop-cursor-preserved t c =
    let line = c.args.line.now in
    let now = c.loop-cursor.out.nodes.items in
    let mid = c.key-inside.new.out.nodes.items in
    let new = c.value-end.new.out.nodes.items in
    let inside = c.key-inside.result in
    let from = c.blanks_end.result in
    let end = c.value-end.result in
    let within = c.byte_at-in-loop-cursor.ensures.within (λ e. omega arith) in
    let v = c.value-end.ensures (omega arith) in
    let later : from < end = (v c.value-end.new.out.texts.items
    (none_behind c.value-end.new.out.texts.items)).1.later in
    let k = c.key-inside.ensures (omega (arith, later, c.blanks_end.ensures)) in
    let comma = byte_then line end 44 (omega arith)
    (ap (λ i. get_or line i 0) (sym c.if-stop-end.true) ∙ omega
    (arith, c.byte_at-in-loop-cursor.ensures.value)) in
    record {
      members = λ all g.
          let r = v all g in
          let n = k all r.0 in
          let s = c.loop-cursor.invariant.members all n.0 in (
            s.0,
            members_more (source line all) c.args.decimals c.args.at c.loop-cursor.cursor end
                c.blanks_end-cursor-in-44.result
                c.args.depth c.push.new.nodes.items now new s.1
                (member_read (source line all) c.args.decimals c.loop-cursor.cursor inside from end
                c.args.depth now
                mid new n.1 (blanks line inside from c.blanks_end.ensures) r.1) comma
                (subst (λ k. Blanks line (k + 1) c.blanks_end-cursor-in-44.result) c.if-stop-end.true
                (blanks line (c.blanks_end-stop.result + 1) c.blanks_end-cursor-in-44.result
                c.blanks_end-cursor-in-44.ensures)),
          );
      place = omega (
        arith,
        c.loop-cursor.invariant.place,
        key_grown line _ _ c.loop-cursor.out c.key-inside.new.out k,
        value_grown line _ _ _ _ c.key-inside.new.out c.value-end.new.out v,
      );
    }

pub object-close_object-requires-in-125 : goal.object-close_object-requires-in-125
object-close_object-requires-in-125 t c =
    let line = c.args.line.now in
    let now = c.loop-cursor.out.nodes.items in
    let mid = c.key-inside.new.out.nodes.items in
    let within = c.byte_at-in-loop-cursor.ensures.within (λ e. omega arith) in
    let v = c.value-end.ensures (omega (arith, c.blanks_end-stop.ensures)) in
    let later : c.blanks_end.result < c.value-end.result = (v c.value-end.new.out.texts.items
    (none_behind c.value-end.new.out.texts.items)).1.later in
    let k = c.key-inside.ensures (omega (arith, later, c.blanks_end.ensures)) in
    omega (
      arith,
      c.loop-cursor.invariant.place,
      key_grown line _ _ c.loop-cursor.out c.key-inside.new.out
          k,
      value_grown line _ _ _ _ c.key-inside.new.out c.value-end.new.out v,
    )

pub object-returns-in-125 : goal.object-returns-in-125
object-returns-in-125 t c h all g =
    let line = c.args.line.now in
    let old = c.args.out.now.nodes.items in
    let now = c.loop-cursor.out.nodes.items in
    let mid = c.key-inside.new.out.nodes.items in
    let new = c.value-end.new.out.nodes.items in
    let inside = c.key-inside.result in
    let from = c.blanks_end.result in
    let end = c.value-end.result in
    let stop = c.blanks_end-stop.result in
    let within = c.byte_at-in-loop-cursor.ensures.within (λ e. omega arith) in
    let v = c.value-end.ensures (omega (arith, c.blanks_end-stop.ensures)) in
    let later : from < end = (v c.value-end.new.out.texts.items
    (none_behind c.value-end.new.out.texts.items)).1.later in
    let k = c.key-inside.ensures (omega (arith, later, c.blanks_end.ensures)) in
    let closed = c.close_object-in-125.ensures (omega arith) in
    let here : c.len-place.result ≡ length old = search rules in
    let src = source line all in
    let r = v all g in
    let n = k all r.0 in
    let s = c.loop-cursor.invariant.members all n.0 in
    let m = member_read src c.args.decimals c.loop-cursor.cursor inside from end c.args.depth now mid new n.1
    (blanks line inside from c.blanks_end.ensures) r.1 in (
      s.0,
      subst (λ e. Reads src c.args.decimals c.args.at e
          (c.args.depth + 1) old c.close_object-in-125.new.nodes.items)
          (sym closed.0)
          (members_close src c.args.decimals c.args.at c.loop-cursor.cursor end stop c.args.depth old
          c.push.new.nodes.items now
          new c.close_object-in-125.new.nodes.items c.len-place.result s.1 m
          (blanks line end stop c.blanks_end-stop.ensures) within
          (omega (arith, c.byte_at-in-loop-cursor.ensures.value)) here
          (c.push.ensures c.if-not-push.false) closed.1),
    )

pub array-loop-cursor-smaller : goal.array-loop-cursor-smaller
array-loop-cursor-smaller t c =
    let within = c.byte_at-in-loop-cursor.ensures.within (λ e. omega arith) in
    let v = c.value-end.ensures (omega arith) in
    let later : c.loop-cursor.cursor < c.value-end.result = (v c.value-end.new.out.texts.items
    (none_behind c.value-end.new.out.texts.items)).1.later in
    omega (arith, later, within, c.if-stop-end.true, c.blanks_end-cursor-in-44.ensures)

pub object-loop-cursor-smaller : goal.object-loop-cursor-smaller
object-loop-cursor-smaller t c =
    let within = c.byte_at-in-loop-cursor.ensures.within (λ e. omega arith) in
    let v = c.value-end.ensures (omega arith) in
    let later : c.blanks_end.result < c.value-end.result = (v c.value-end.new.out.texts.items
    (none_behind c.value-end.new.out.texts.items)).1.later in
    let k = c.key-inside.ensures (omega (arith, later, c.blanks_end.ensures)) in
    let named : c.loop-cursor.cursor < c.key-inside.result = (k c.key-inside.new.out.texts.items
    (none_behind c.key-inside.new.out.texts.items)).1.later in
    omega (
      arith,
      named,
      later,
      within,
      c.if-stop-end.true,
      c.blanks_end.ensures,
      c.blanks_end-cursor-in-44.ensures,
    )

pub value-returns-in-123 : goal.value-returns-in-123
value-returns-in-123 t c h =
    let depth : c.args.depth - 1 + 1 ≡ c.args.depth = omega arith in
    subst (λ d. ReadsOn c.args.line.now c.args.decimals c.args.at c.object.result d c.args.out.now
    c.object.new.out) depth (c.object.ensures h)

pub value-returns-in-91 : goal.value-returns-in-91
value-returns-in-91 t c h =
    let depth : c.args.depth - 1 + 1 ≡ c.args.depth = omega arith in
    subst (λ d. ReadsOn c.args.line.now c.args.decimals c.args.at c.array.result d c.args.out.now
    c.array.new.out) depth (c.array.ensures h)
