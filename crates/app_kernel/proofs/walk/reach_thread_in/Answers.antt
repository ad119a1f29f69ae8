use Rattle.std.proofs.Common.{refl}
use Rattle.app_kernel.proofs.ReachLaws.{here_away, thread_passed, thread_reached, up_away}
use Rattle.app_kernel.proofs.WalkLaws.{thread_taken, walked_on}
use Rattle.app_kernel.proofs.GentleCalls.{gentle_here, thread_gentle}
use Rattle.app_kernel.proofs.GentleLaws.{gentle_on}
use Rattle.app_kernel.proofs.walk.reach_thread_in.Goals as goal

pub returns-in_err-kernel-clause-reached : goal.returns-in_err-kernel-clause-reached
returns-in_err-kernel-clause-reached g c =
    up_away (g.P.Port.board c.args.port.now) (g.P.Port.board c.reach_kernel_of.new.port) c.args.owners.now c.reach_kernel_of.new.owners c.args.space c.args.thread c.args.trust c.in_err-kernel.field-0.0 c.reach_kernel_of.result c.from_residual.result (c.reach_kernel_of.ensures.had refl) c.in_err-kernel.was c.reach_kernel_of.ensures.walked

pub returns-in_err-parent-clause-walked : goal.returns-in_err-parent-clause-walked
returns-in_err-parent-clause-walked g c =
    walked_on (g.P.Port.board c.args.port.now) (g.P.Port.board c.reach_kernel_of.new.port) (g.P.Port.board c.reach_space.new.port) c.args.owners.now c.reach_kernel_of.new.owners c.reach_space.new.owners c.reach_kernel_of.ensures.walked c.reach_space.ensures.walked

pub returns-in_err-parent-clause-reached : goal.returns-in_err-parent-clause-reached
returns-in_err-parent-clause-reached g c =
    here_away (g.P.Port.board c.args.port.now) (g.P.Port.board c.reach_kernel_of.new.port) (g.P.Port.board c.reach_space.new.port) c.args.owners.now c.reach_kernel_of.new.owners c.reach_space.new.owners c.args.space c.reach_kernel_of.result c.reach_space.result (c.reach_kernel_of.ensures.had refl) (c.reach_space.ensures.had refl)
    c.args.thread c.args.trust c.in_err-parent.field-0.0 c.from_residual-in_err-parent.result c.in_err-parent.was
    (walked_on (g.P.Port.board c.args.port.now) (g.P.Port.board c.reach_kernel_of.new.port) (g.P.Port.board c.reach_space.new.port) c.args.owners.now c.reach_kernel_of.new.owners c.reach_space.new.owners c.reach_kernel_of.ensures.walked c.reach_space.ensures.walked)

pub returns-clause-walked : goal.returns-clause-walked
returns-clause-walked g c =
    walked_on (g.P.Port.board c.args.port.now) (g.P.Port.board c.reach_space.new.port) (g.P.Port.board c.load_thread-answer.new.self) c.args.owners.now c.reach_space.new.owners c.take.new.owners
    (walked_on (g.P.Port.board c.args.port.now) (g.P.Port.board c.reach_kernel_of.new.port) (g.P.Port.board c.reach_space.new.port) c.args.owners.now c.reach_kernel_of.new.owners c.reach_space.new.owners c.reach_kernel_of.ensures.walked c.reach_space.ensures.walked)
    (thread_taken (g.P.Port.board c.reach_space.new.port) (g.P.Port.board c.load_thread-answer.new.self) c.load_thread-answer.result c.reach_space.new.owners c.take.new.owners c.take.result c.in_ok-kernel.kernel c.in_ok-parent.parent c.args.thread c.load_thread-answer.ensures.call c.take.ensures.noted c.take.ensures.taken c.take.ensures.same)

pub returns-clause-passed : goal.returns-clause-passed
returns-clause-passed g c =
    thread_passed (g.P.Port.board c.args.port.now) (g.P.Port.board c.reach_space.new.port) (g.P.Port.board c.load_thread-answer.new.self) c.args.owners.now c.reach_space.new.owners c.take.new.owners c.args.space c.args.thread c.args.trust c.in_ok-kernel.kernel c.in_ok-parent.parent c.load_thread-answer.result
    (walked_on (g.P.Port.board c.args.port.now) (g.P.Port.board c.reach_kernel_of.new.port) (g.P.Port.board c.reach_space.new.port) c.args.owners.now c.reach_kernel_of.new.owners c.reach_space.new.owners c.reach_kernel_of.ensures.walked c.reach_space.ensures.walked)
    c.in_ok-parent.ensures.noted c.load_thread-answer.ensures.call c.take.result
    (record { noted = c.take.ensures.noted; taken = c.take.ensures.taken; same = c.take.ensures.same; failed = c.take.ensures.failed })

pub returns-clause-reached : goal.returns-clause-reached
returns-clause-reached g c =
    thread_reached (g.P.Port.board c.args.port.now) (g.P.Port.board c.reach_kernel_of.new.port) (g.P.Port.board c.reach_space.new.port) c.args.owners.now c.reach_kernel_of.new.owners c.reach_space.new.owners c.args.space c.reach_kernel_of.result c.reach_space.result (c.reach_kernel_of.ensures.had refl) (c.reach_space.ensures.had refl)
    (g.P.Port.board c.load_thread-answer.new.self) c.take.new.owners c.args.thread c.args.trust c.in_ok-kernel.kernel c.in_ok-parent.parent c.load_thread-answer.result c.take.result c.in_ok-kernel.was c.in_ok-parent.was
    (walked_on (g.P.Port.board c.args.port.now) (g.P.Port.board c.reach_kernel_of.new.port) (g.P.Port.board c.reach_space.new.port) c.args.owners.now c.reach_kernel_of.new.owners c.reach_space.new.owners c.reach_kernel_of.ensures.walked c.reach_space.ensures.walked)
    c.load_thread-answer.ensures.call
    (thread_taken (g.P.Port.board c.reach_space.new.port) (g.P.Port.board c.load_thread-answer.new.self) c.load_thread-answer.result c.reach_space.new.owners c.take.new.owners c.take.result c.in_ok-kernel.kernel c.in_ok-parent.parent c.args.thread c.load_thread-answer.ensures.call c.take.ensures.noted c.take.ensures.taken c.take.ensures.same)
    (record { noted = c.take.ensures.noted; taken = c.take.ensures.taken; same = c.take.ensures.same; failed = c.take.ensures.failed })

pub returns-in-Some-clause-gentle : goal.returns-in-Some-clause-gentle
returns-in-Some-clause-gentle g c = gentle_here c.args.space (g.P.Port.board c.args.port.now) c.args.owners.now

pub returns-in_err-parent-clause-gentle : goal.returns-in_err-parent-clause-gentle
returns-in_err-parent-clause-gentle g c =
    gentle_on c.args.space (g.P.Port.board c.args.port.now) (g.P.Port.board c.reach_kernel_of.new.port) (g.P.Port.board c.reach_space.new.port) c.args.owners.now c.reach_kernel_of.new.owners c.reach_space.new.owners c.reach_kernel_of.ensures.gentle c.reach_space.ensures.gentle

pub returns-clause-gentle : goal.returns-clause-gentle
returns-clause-gentle g c =
    gentle_on c.args.space (g.P.Port.board c.args.port.now) (g.P.Port.board c.reach_space.new.port) (g.P.Port.board c.load_thread-answer.new.self) c.args.owners.now c.reach_space.new.owners c.take.new.owners
    (gentle_on c.args.space (g.P.Port.board c.args.port.now) (g.P.Port.board c.reach_kernel_of.new.port) (g.P.Port.board c.reach_space.new.port) c.args.owners.now c.reach_kernel_of.new.owners c.reach_space.new.owners c.reach_kernel_of.ensures.gentle c.reach_space.ensures.gentle)
    (thread_gentle (g.P.Port.board c.reach_space.new.port) (g.P.Port.board c.load_thread-answer.new.self) c.reach_space.new.owners c.take.new.owners c.load_thread-answer.result c.args.space
    (thread_taken (g.P.Port.board c.reach_space.new.port) (g.P.Port.board c.load_thread-answer.new.self) c.load_thread-answer.result c.reach_space.new.owners c.take.new.owners c.take.result c.in_ok-kernel.kernel c.in_ok-parent.parent c.args.thread c.load_thread-answer.ensures.call c.take.ensures.noted c.take.ensures.taken c.take.ensures.same)
    c.in_ok-kernel.kernel c.in_ok-parent.parent c.args.thread c.in_ok-parent.ensures.noted c.load_thread-answer.ensures.call)
