use Rattle.std.proofs.Common.{◌≡◌, ◌++◌, take}
use Rattle.edr_cli.specs.Lives.{live_text}
use Rattle.edr_cli.proofs.live.with_lines.Given as goal

abbrev pub invariant-loop-line : goal.invariant-loop-line
invariant-loop-line l = l.text.items ≡ l.fn.report.items ++ live_text (take l.line-index l.lines)
