-- Parts of rows.
use Rattle.std.proofs.Common.{◌≡◌, ◌≤◌, ◌<◌, ℕ, ◌+◌, ◌-◌, List, ◌∷◌, length, take, drop, set, sym, ◌∙◌, ap, arith}
use Rattle.std.proofs.lemmas.List.{drop-take, drop-set, drop-drop, length-drop, length-take}
use Rattle.std.proofs.Math.Seq.{take-set-lt}
use Rattle.stage_run.specs.Rows.{Kept, waiting}

module _ {T : Type 0} where
  -- what is behind a place, up to another
  pub part_is : (from to : ℕ) (room : List T) → from ≤ to → take (to - from) (drop from room) ≡ drop from (take to room)
  part_is from to room le = let there : from + (to - from) ≡ to = omega (arith, le) in sym (drop-take from (to - from) room) ∙ ap (λ k. drop from (take k room)) there

  -- one was put back before others
  pub put_back : (from to n : ℕ) (room : List T) (thing : T) → 0 < n → n ≤ length (drop from (take to room)) → drop (from + n - 1) (take to (set room (from + n - 1) thing)) ≡ thing ∷ drop n (drop from (take to room))
  put_back from to n room thing some within =
      let len = length-drop from (take to room) in
      let short = length-take to room in
      let low : from + n - 1 < length (take to room) = omega (arith, some, within, len) in
      let lower : from + n - 1 < to = omega (arith, low, short) in
      let next : (from + n - 1) + 1 ≡ from + n = omega (arith, some) in
      ap (drop (from + n - 1)) (take-set-lt to room (from + n - 1) thing lower) ∙ drop-set (take to room) (from + n - 1) thing low
      ∙ ap (λ k. thing ∷ drop k (take to room)) next ∙ ap (λ (l : List T). thing ∷ l) (sym (drop-drop n from (take to room)))

-- more of a row are done
pub skipped : {T : Type 0} (row : Kept T) (n : ℕ) → drop (row.at + n) row.list ≡ drop n (waiting row)
skipped row n = sym (drop-drop n row.at row.list)
