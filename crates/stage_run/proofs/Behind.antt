-- What is given behind an input that was consumed at first.
use Rattle.std.proofs.Common.{◌≡◌, ◌≤◌, ℕ, List, [], ◌++◌, drop, length, length-append, sym, ◌∙◌, ap, subst, arith, append_assoc}
use Rattle.std.proofs.lemmas.List.{append-nil, append_cancel_left, drop-append-le}
use Rattle.la_base.specs.declared.wires.Feed.{Feed}
use Rattle.la_base.specs.declared.wires.Out.{Out}
use Rattle.decoder_core.specs.Inputs.{Item}
use Rattle.decoder_core.specs.Packets.{IsFloorOver}
use Rattle.decoder_core.specs.Promises.{KeepsFront, NotesFrom, PacketsFrom}
use Rattle.stack_laws.specs.Heeding.{above_in}
use Rattle.stack_laws.specs.Moves.{MayTell}
use Rattle.stack_laws.specs.Rests.{near_behind, whole_behind}

module _ (whole : List Item → List Out) (prefix : KeepsFront whole) (start consumed : List Item) where
  -- more is given behind it
  pub behind_gives : (items : List Item) (new : List Out) → whole ((start ++ consumed) ++ items) ≡ whole (start ++ consumed) ++ new → whole_behind whole start (consumed ++ items) ≡ whole_behind whole start consumed ++ new
  behind_gives items new gives =
      let n = length (whole start) in
      let grows = prefix start consumed in
      let within : n ≤ length (whole (start ++ consumed)) = omega (arith, ap length grows.1, length-append (whole start) grows.0) in
      ap (λ (l : List Item). drop n (whole l)) (sym (append_assoc start consumed items)) ∙ ap (drop n) gives ∙ drop-append-le n (whole (start ++ consumed)) new within

  behind_floor : (above floor : ℕ) → IsFloorOver above whole (start ++ consumed) floor → IsFloorOver above (whole_behind whole start) consumed floor
  behind_floor above floor is = λ more new from gives.
      let grows = prefix (start ++ consumed) more in
      let same = append_cancel_left (whole_behind whole start consumed) grows.0 new (sym (behind_gives more grows.0 grows.1) ∙ gives) in
      let low = is more grows.0 from grows.1 in
      (subst (NotesFrom floor) same low.0, subst (PacketsFrom floor) same low.1)

  -- a floor of it
  pub behind_told : (received : List Feed) (near : List Item → ℕ) (floor : ℕ) → IsFloorOver (above_in received (length consumed)) whole (start ++ consumed) floor → near (start ++ consumed) ≤ floor → MayTell (above_in received (length (consumed ++ []))) (whole_behind whole start) (near_behind near start) (consumed ++ []) floor
  behind_told received near floor is least = subst (λ (l : List Item). MayTell (above_in received (length l)) (whole_behind whole start) (near_behind near start) l floor) (sym (append-nil consumed)) (behind_floor (above_in received (length consumed)) floor is, least)

  pub behind_nothing : whole_behind whole start (consumed ++ []) ≡ whole_behind whole start consumed ++ []
  behind_nothing = ap (whole_behind whole start) (append-nil consumed) ∙ sym (append-nil (whole_behind whole start consumed))

-- it keeps what it gave
pub behind_prefix : (whole : List Item → List Out) → KeepsFront whole → (start : List Item) → KeepsFront (whole_behind whole start)
behind_prefix whole prefix start = λ input more. let grows = prefix (start ++ input) more in (grows.0, behind_gives whole prefix start input more grows.0 grows.1)
