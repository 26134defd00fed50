-- Blocks one by one.
use Rattle.std.proofs.Common.{◌≡◌, ℕ, ◌+◌, ◌<◌, List, [], ◌∷◌, ◌++◌, take, length, get_or, sym, ap, ◌∙◌, append-nil}
use Rattle.std.specs.List.{filter}
use Rattle.std.proofs.lemmas.List.{take_more}
use Rattle.std.proofs.lemmas.List.Concat.{flat_map-append}
use Rattle.std.proofs.lemmas.List.Elements.{filter-append}
use Rattle.la_base.specs.declared.wires.Note.{Note}
use Rattle.view_store.specs.Blocks.{notes_of_block, notes_in}
use Rattle.view_store.specs.declared.block.Block.{Block}
use Rattle.view_store.specs.Listings.{is_between}

pub blocks_more : (blocks : List Block) (i : ℕ) (block : Block) → i < length blocks → block ≡ get_or blocks i block → notes_in (take (i + 1) blocks) ≡ notes_in (take i blocks) ++ notes_of_block block
blocks_more blocks i block within is =
    ap notes_in (take_more blocks i block within)
    ∙ flat_map-append notes_of_block (take i blocks) (get_or blocks i block ∷ [])
    ∙ (λ j. notes_in (take i blocks) ++ append-nil (notes_of_block (sym is j)) j)

pub between_more : (start end : ℕ) (blocks : List Block) (i : ℕ) (block : Block) (found new : List (ℕ × Note)) → i < length blocks → block ≡ get_or blocks i block → found ≡ filter (is_between start end) (notes_in (take i blocks))
    → new ≡ found ++ filter (is_between start end) (notes_of_block block) → new ≡ filter (is_between start end) (notes_in (take (i + 1) blocks))
between_more start end blocks i block found new within is so_far more =
    more ∙ ap (λ (l : List (ℕ × Note)). l ++ filter (is_between start end) (notes_of_block block)) so_far
    ∙ sym (filter-append (is_between start end) (notes_in (take i blocks)) (notes_of_block block))
    ∙ sym (ap (filter (is_between start end)) (blocks_more blocks i block within is))
