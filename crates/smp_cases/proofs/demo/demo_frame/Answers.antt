use Rattle.smp_cases.proofs.Rows.{state_behind, text_behind}
use Rattle.smp_cases.specs.Demo.{demo_frame_text}
use Rattle.std.specs.Prelude.{string_bytes}
use Rattle.smp_cases.proofs.demo.demo_frame.Goals as goal

pub loop-i-preserved : goal.loop-i-preserved
loop-i-preserved c = (
  state_behind c.args.seed c.loop-i.i c.loop-i.generator.state c.push_row.new.generator.state c.loop-i.auto.i c.loop-i.invariant.0 c.push_row.ensures.state,
  text_behind c.args.seed c.args.n c.loop-i.i c.loop-i.generator.state (string_bytes c.loop-i.text) (string_bytes c.push_row.new.text) (demo_frame_text c.args.n c.args.seed) c.loop-i-test.true c.loop-i.invariant.0 c.loop-i.invariant.1 c.in_ok-push_row.ensures.text,
)
