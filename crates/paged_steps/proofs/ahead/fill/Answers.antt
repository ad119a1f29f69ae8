use Rattle.paged_steps.proofs.ahead.fill.Goals as goal

pub returns-clause-filled : goal.returns-clause-filled
returns-clause-filled g c = record {
  bytes = c.page-bytes.result.now;
  ident = c.default.result;
  is = c.fill.ensures;
  of = λ memory means. c.page-bytes.ensures.bytes memory _ (c.in_ok-keep.ensures.memory memory means);
}
