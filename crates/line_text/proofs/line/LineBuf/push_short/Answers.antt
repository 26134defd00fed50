use Rattle.std.proofs.Common.{◌∙◌, ◌≡◌, ◌≤◌, ◌++◌, ℕ, ap, arith, take, length, length-take-le, rules}
use Rattle.line_text.proofs.Decimals.{front_copied}
use Rattle.line_text.proofs.line.LineBuf.push_short.Goals as goal

pub returns-clause-text : goal.returns-clause-text
returns-clause-text c =
    let room = c.copy_from_slice.new.self in
    let text : take c.len.result room ≡ c.args.text.now = ap (λ (n : ℕ). take n room) c.len.ensures.count ∙ ap (take (length c.args.text.now)) c.copy_from_slice.ensures.after ∙ c.room-room.ensures in
    let fits : c.self.inside.len ≤ 236 = omega (arith, ap length c.self.view_is, length-take-le c.self.inside.len c.self.inside.buffer (omega arith), c.requires) in
    front_copied c.self.inside.len c.len.result _ c.self.inside.buffer room (search rules) (omega arith) (omega arith)
    ∙ (λ i. c.self.view_is i ++ text i)
