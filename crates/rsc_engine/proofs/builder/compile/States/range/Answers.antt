use Rattle.std.proofs.Common.{◌<◌, ◌≤◌, arith}
use Rattle.rsc_engine.proofs.RefusalsLemmas.{built-weaker}
use Rattle.rsc_engine.proofs.CompileLemmas.{Builds-range, Builds-reversed}
use Rattle.rsc_engine.proofs.builder.compile.States.range.Goals as goal

pub returns-then-end-start-clause-builds : goal.returns-then-end-start-clause-builds
returns-then-end-start-clause-builds c =
    let less : c.args.end < c.args.start = omega (arith, c.if-end-start.true) in
    built-weaker c.never.result _ _ (λ first b slot. Builds-reversed slot _ _ first c.args.next c.args.start c.args.end less (b slot)) c.never.ensures.builds

pub returns-clause-builds : goal.returns-clause-builds
returns-clause-builds c =
    let order : c.args.start ≤ c.args.end = omega (arith, c.if-end-start.false) in
    built-weaker c.add.result _ _ (λ first a slot. Builds-range slot _ _ c.args.start c.args.end first c.args.next order a) c.add.ensures
