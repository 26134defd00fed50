-- One more option that is told.
use Rattle.std.proofs.Common.{ℕ, suc, ◌≡◌, ◌∙◌, ◌+◌, ◌<◌, List, ◌++◌, length, map, drop, get_or, slice_get, ap, drop-cons, arith}
use Rattle.kind_table.specs.Kinds.{opt_row}
use Rattle.kind_table.specs.declared.kinds.OptRow.{OptRow}
use Rattle.help_text.specs.Decoders.{option_told, options_told, text_in}

-- the next of some options, and those behind it
pub options_next : (meanings : List (List ℕ)) (rows : List OptRow) (n : ℕ) (default : OptRow) → n < length rows
    → options_told n meanings (map opt_row (drop n rows)) ≡ option_told (text_in (slice_get meanings n)) (opt_row (get_or rows n default)) ++ options_told (n + 1) meanings (map opt_row (drop (n + 1) rows))
options_next meanings rows n default within =
    let behind : suc n ≡ n + 1 = omega arith in
    ap (λ (l : List OptRow). options_told n meanings (map opt_row l)) (drop-cons rows n default within)
    ∙ ap (λ (k : ℕ). option_told (text_in (slice_get meanings n)) (opt_row (get_or rows n default)) ++ options_told (n + 1) meanings (map opt_row (drop k rows))) behind
