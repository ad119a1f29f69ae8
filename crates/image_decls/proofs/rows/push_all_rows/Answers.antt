use Rattle.std.proofs.Common.{◌+◌, ◌≤◌, sym, ap, ◌∙◌, subst, arith}
use Rattle.std.specs.Global.{Vec}
use Rattle.flat_state.specs.declared.events.Decl.{Decl}
use Rattle.image_decls.specs.Declarations.{HasAddresses, part_rows}
use Rattle.image_decls.proofs.Along.{of_part, few_pages, further, past, not_past}
use Rattle.image_decls.proofs.rows.push_all_rows.Goals as goal
use Rattle.image_decls.proofs.rows.push_all_rows.Goals.{in-Some+in_ok-push_rows, in_default}

pub push_rows-requires-clause-few : goal.push_rows-requires-clause-few
push_rows-requires-clause-few c = few_pages (part_rows c.args.space) c.args.decls.now.items c.loop-i.decls.items c.args.frame c.loop-i.next c.args.image.now.parts c.loop-i.i c.in-Some.part (sym c.in-Some.ensures) c.loop-i.invariant

pub page_count-next-requires : goal.page_count-next-requires
page_count-next-requires c = of_part HasAddresses c.args.image.now.parts c.loop-i.i c.in-Some.part (sym c.in-Some.ensures) c.requires.placed

pub overflow_add-next : goal.overflow_add-next
overflow_add-next c =
    let few = few_pages (part_rows c.args.space) c.args.decls.now.items c.loop-i.decls.items c.args.frame c.loop-i.next c.args.image.now.parts c.loop-i.i c.in-Some.part (sym c.in-Some.ensures) c.loop-i.invariant in
    omega (arith, few, c.page_count-next.ensures.few)

pub loop-i-preserved : goal.loop-i-preserved
loop-i-preserved c =
    elim c.match-part.branch [
      | in-Some+in_ok-push_rows w ↦
          further (part_rows c.args.space) c.args.decls.now.items c.loop-i.decls.items c.match-part.decls.items c.args.frame c.loop-i.next c.match-part.next c.args.image.now.parts c.loop-i.i w.in-Some.part (sym w.in-Some.ensures)
          (ap (λ (v : Vec Decl). v.items) w.decls-is ∙ w.in_ok-push_rows.ensures) (w.next-is ∙ ap (λ n. c.loop-i.next + n) w.page_count-next.ensures.value) (subst (λ n. n ≤ w.in-Some.part.size) w.page_count-next.ensures.value w.page_count-next.ensures.few) c.loop-i.invariant
      | in_default w ↦ absurd (not_past c.args.image.now.parts c.loop-i.i w.in_default.ensures (omega (arith, c.loop-i-test.true, c.len-i-end.ensures)))
    ]

pub returns : goal.returns
returns c = past (part_rows c.args.space) c.args.decls.now.items c.loop-i.decls.items c.args.frame c.loop-i.next c.args.image.now.parts c.loop-i.i (omega (arith, c.loop-i-test.false, c.len-i-end.ensures)) c.loop-i.invariant
