-- Lines that are appended one after another.
use Rattle.std.proofs.Common.{◌≡◌, ℕ, List, [], ◌∷◌, ◌++◌, refl, sym, ◌∙◌, ap, append_assoc}
use Rattle.std.proofs.lemmas.List.{append-nil}
use Rattle.wait_cond.specs.Stops.{Stop}
use Rattle.listing_out.specs.StopLines.{line_of, lines_of}

-- one more line
pub lines_more : (stops : List Stop) (stop : Stop) → lines_of (stops ++ stop ∷ []) ≡ lines_of stops ++ line_of stop
lines_more [] stop = append-nil (line_of stop)
lines_more (s ∷ stops) stop = ap (λ (l : List ℕ). line_of s ++ l) (lines_more stops stop) ∙ sym (append_assoc (line_of s) (lines_of stops) (line_of stop))

-- the lines of more stops
pub lines_append : (stops more : List Stop) → lines_of (stops ++ more) ≡ lines_of stops ++ lines_of more
lines_append [] more = refl
lines_append (s ∷ stops) more = ap (λ (l : List ℕ). line_of s ++ l) (lines_append stops more) ∙ sym (append_assoc (line_of s) (lines_of stops) (lines_of more))
