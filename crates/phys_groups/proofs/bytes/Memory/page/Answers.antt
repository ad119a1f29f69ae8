use Rattle.std.proofs.Common.{◌≡◌, ℕ, ◌+◌, ◌-◌, ◌*◌, ◌≤◌, List, length, ap, sym, ◌∙◌, arith}
use Rattle.phys_groups.specs.Memory.{page_at}
use Rattle.phys_groups.proofs.Padded.{length-padded, page_at-padded, page_at-zeros}
use Rattle.phys_groups.proofs.bytes.Memory.page.Goals as goal

pub returns-then-start-len-clause-bytes : goal.returns-then-start-len-clause-bytes
returns-then-start-len-clause-bytes c =
    let start : c.args.frame.0 * 4096 ≡ 4096 * c.args.frame.0 = omega arith in
    let count : 4096 * c.args.frame.0 + 4096 - 4096 * c.args.frame.0 ≡ 4096 = omega arith in
    let within : 4096 * c.args.frame.0 + 4096 ≤ length c.self.inside.bytes.items = omega (arith, c.self.inside.bytes.ok.0) in
    rw (start, count, c.deref.ensures.value, ← c.self.view_is) (sym (page_at-padded c.self.inside.size c.self.inside.bytes.items c.args.frame within))

pub returns-else-start-len-clause-bytes : goal.returns-else-start-len-clause-bytes
returns-else-start-len-clause-bytes c =
    let behind : length c.self.inside.bytes.items ≤ 4096 * c.args.frame.0 = omega (arith, c.self.inside.bytes.ok.0) in
    let within : 4096 * c.args.frame.0 + 4096 ≤ c.self.inside.size = omega (arith, length-padded c.self.inside.size c.self.inside.bytes.items c.self.invariant.within, ap length c.self.view_is) in
    c.no_bytes.ensures ∙ sym (page_at-zeros c.self.inside.size c.self.inside.bytes.items c.args.frame behind within) ∙ ap (λ (bytes : List ℕ). page_at bytes c.args.frame) c.self.view_is
