use Rattle.cache_ident.specs.declared.names.Name.TheVariants as name
use Rattle.app_kernel.proofs.ReachLaws.{first_reached, kernel_reached}
use Rattle.app_kernel.proofs.WalkLaws.{kernel_taken}
use Rattle.app_kernel.proofs.GentleCalls.{gentle_here, kernel_gentle}
use Rattle.app_kernel.proofs.walk.reach_kernel.Goals as goal

pub returns-then-kernel-eq0-clause-reached : goal.returns-then-kernel-eq0-clause-reached
returns-then-kernel-eq0-clause-reached g c = first_reached (g.P.Port.board c.args.port.now) c.args.owners.now c.args.trust c.args.kernel c.if-kernel-eq0.true

pub returns-clause-walked : goal.returns-clause-walked
returns-clause-walked g c =
    kernel_taken (g.P.Port.board c.args.port.now) (g.P.Port.board c.load_kernel-answer.new.self) c.load_kernel-answer.result c.args.owners.now c.take.new.owners c.take.result _ c.args.kernel c.load_kernel-answer.ensures.call c.take.ensures.noted c.take.ensures.taken c.take.ensures.same

pub returns-clause-reached : goal.returns-clause-reached
returns-clause-reached g c =
    kernel_reached (g.P.Port.board c.args.port.now) (g.P.Port.board c.load_kernel-answer.new.self) c.args.owners.now c.take.new.owners c.args.trust c.args.kernel c.load_kernel-answer.result c.take.result c.if-kernel-eq0.false c.load_kernel-answer.ensures.call
    (record { noted = c.take.ensures.noted; taken = c.take.ensures.taken; same = c.take.ensures.same; failed = c.take.ensures.failed })

pub returns-then-kernel-eq0-clause-gentle : goal.returns-then-kernel-eq0-clause-gentle
returns-then-kernel-eq0-clause-gentle g c = λ space same. gentle_here space (g.P.Port.board c.args.port.now) c.args.owners.now

pub returns-in-Some-clause-gentle : goal.returns-in-Some-clause-gentle
returns-in-Some-clause-gentle g c = λ space same. gentle_here space (g.P.Port.board c.args.port.now) c.args.owners.now

pub returns-clause-gentle : goal.returns-clause-gentle
returns-clause-gentle g c = λ space same.
    kernel_gentle (g.P.Port.board c.args.port.now) (g.P.Port.board c.load_kernel-answer.new.self) c.args.owners.now c.take.new.owners c.load_kernel-answer.result space
    (kernel_taken (g.P.Port.board c.args.port.now) (g.P.Port.board c.load_kernel-answer.new.self) c.load_kernel-answer.result c.args.owners.now c.take.new.owners c.take.result _ c.args.kernel c.load_kernel-answer.ensures.call c.take.ensures.noted c.take.ensures.taken c.take.ensures.same)
    c.args.kernel same c.load_kernel-answer.ensures.call

pub returns-clause-idents : goal.returns-clause-idents
returns-clause-idents g c = λ other. c.take.ensures.others (name.Thread other) (λ same. absurd (cc))
