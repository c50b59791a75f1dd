use Rattle.std.proofs.Common.{◌≡◌, ◌∙◌, ◌++◌, ℕ, List, ap, append_assoc, refl}
use Rattle.std.specs.Prelude.{codes, decimal}
use Rattle.edr_report.proofs.short_lines.live_line.Goals as goal

-- three numbers with the words before them, and then the words after them
joined : (c x p y e z feed : List ℕ) → ((c ++ (x ++ p)) ++ (y ++ e)) ++ (z ++ feed) ≡ (c ++ x ++ p ++ y ++ e ++ z) ++ feed
joined c x p y e z feed = simp append_assoc refl

pub returns : goal.returns
returns c =
    let first = rw (c.new-line.ensures) at c.push_number.ensures.bytes in
    let second = rw first at c.push_number-2.ensures.bytes in
    let third = rw (second, c.from.ensures) at c.push_number-3.ensures.bytes in
    let whole = rw third at (c.new.ensures ∙ c.push_str.ensures.bytes) in
    whole ∙ ap (λ (t : List ℕ). codes "live: cycle " ++ t)
    (joined (decimal c.args.cycle) (codes ", ") (decimal c.args.commands) (codes " commands, ") (decimal c.args.events) (codes " events") (codes "\n"))
