-- Edges and pulses of a 1-Wire line, seen as those of its definition.
use Rattle.std.proofs.Common.{◌≡◌, ℕ, ◌+◌, Bool, true, false, List, [], ◌∷◌, ◌++◌, map, Option, Some, None, refl, ◌∙◌}
use Rattle.std.specs.Prelude.{option_map}
use Rattle.std.proofs.lemmas.List.{map-append}
use Rattle.la_base.specs.Samples.{is_high}
use Rattle.list_cuts.specs.Neighbours.{neighbours_from}
use Rattle.dec_onewire.specs.Link as link
use Rattle.reference_devices.specs.declared.onewire_link.Edge.{Edge}
use Rattle.reference_devices.specs.LinkParts.{edge_by, edge_of, line_edge, line_pulse, pulse_by, pulse_of}

-- what neighbours give, seen through functions
module _ {X Y E F : Type 0} (h : X → Y) (m : E → F) (f : ℕ → Option X → X → List E) (g : ℕ → Option Y → Y → List F)
    (same : (k : ℕ) (before : Option X) (now : X) → map m (f k before now) ≡ g k (option_map h before) (h now)) where
  seen : (list : List X) (k : ℕ) (before : Option X) → map m (neighbours_from f k before list) ≡ neighbours_from g k (option_map h before) (map h list)
  seen [] k before = refl
  seen (x ∷ list) k before = map-append m (f k before x) (neighbours_from f (k + 1) (Some x) list) ∙ (λ i. same k before x i ++ seen list (k + 1) (Some x) i)

module _ {X E F : Type 0} (m : E → F) (f : ℕ → Option X → X → List E) (g : ℕ → Option X → X → List F)
    (same : (k : ℕ) (before : Option X) (now : X) → map m (f k before now) ≡ g k before now) where
  told : (list : List X) (k : ℕ) (before : Option X) → map m (neighbours_from f k before list) ≡ neighbours_from g k before list
  told [] k before = refl
  told (x ∷ list) k before = map-append m (f k before x) (neighbours_from f (k + 1) (Some x) list) ∙ (λ i. same k before x i ++ told list (k + 1) (Some x) i)

-- what neighbours give that are seen through a function
pub given : {X Y E : Type 0} (h : X → Y) (g : ℕ → Option Y → Y → List E) (list : List X) (k : ℕ) (before : Option X)
    → neighbours_from (λ place was now. g place (option_map h was) (h now)) k before list ≡ neighbours_from g k (option_map h before) (map h list)
given h g [] k before = refl
given h g (x ∷ list) k before = λ i. g k (option_map h before) (h x) ++ given h g list (k + 1) (Some x) i

pub edges_are : (line : ℕ) (samples : List ℕ) → map edge_of (neighbours_from (line_edge line) 0 None samples) ≡ link.edges line samples
edges_are line samples = told edge_of (line_edge line) (link.edge_at line) same samples 0 None
  where
    by : (k : ℕ) (a b : Bool) → map edge_of (edge_by k a b) ≡ link.edge_by k a b
    by k false true = refl
    by k true false = refl
    by k false false = refl
    by k true true = refl

    same : (k : ℕ) (before : Option ℕ) (now : ℕ) → map edge_of (line_edge line k before now) ≡ link.edge_at line k before now
    same k None now = refl
    same k (Some before) now = by k (is_high before line) (is_high now line)

pub pulses_are : (edges : List Edge) → map pulse_of (neighbours_from line_pulse 0 None edges) ≡ link.pulses (map edge_of edges)
pulses_are edges = seen edge_of pulse_of line_pulse link.pulse_at same edges 0 None
  where
    by : (fall rise : ℕ) (a b : Bool) → map pulse_of (pulse_by fall a rise b) ≡ link.pulse_by fall a rise b
    by fall rise false true = refl
    by fall rise false false = refl
    by fall rise true b = refl

    same : (k : ℕ) (before : Option Edge) (now : Edge) → map pulse_of (line_pulse k before now) ≡ link.pulse_at k (option_map edge_of before) (edge_of now)
    same k None now = refl
    same k (Some before) now = by before.at now.at before.high now.high
