use Rattle.std.proofs.Common.{◌≡◌, ◌≤◌, drop, length, ap, arith}
use Rattle.std.specs.List.{sum_by}
use Rattle.std.proofs.lemmas.List.{drop_all}
use Rattle.page_bus.specs.Passes.{VcpuPassData, task_of}
use Rattle.bg_run.proofs.blocked.blocked_of.Goals as goal

pub returns : goal.returns
returns c =
    let items = c.args.passes.now.items in
    let end : length items ≤ c.loop-pass.pass-index = (let t = c.loop-pass-test.false in let e = ap length c.deref-pass-items.ensures.value in omega (arith, t, e)) in
    let none : sum_by (λ (p : VcpuPassData). (task_of p.view).blocked) (drop c.loop-pass.pass-index items) ≡ 0 = ap (sum_by (λ (p : VcpuPassData). (task_of p.view).blocked)) (drop_all c.loop-pass.pass-index items end) in
    let sum = c.loop-pass.invariant.sum in
    let fits = c.loop-pass.invariant.fits in
    omega (arith, none, sum, fits)
