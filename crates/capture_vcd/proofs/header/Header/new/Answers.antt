use Rattle.std.proofs.Common.{refl, sym, subst, map, length, List, [], None}
use Rattle.capture_vcd.specs.Places.{Below, channel_at}
use Rattle.capture_vcd.specs.declared.place.Place.{Place}
use Rattle.capture_vcd.proofs.header.Header.new.Goals as goal

pub returns : goal.returns
returns c = record {
  sections = [];
  declared = [];
  pending = None;
  goes = λ rest. refl;
  read = refl;
  opened = refl;
  kept = record {
    names_are = c.new-2.ensures;
    bits_are = λ i. map (channel_at c.new-4.result.items) (c.new-3.ensures.items i);
    within = subst (λ (l : List Place). Below (length c.new-4.result.items) l) (sym c.new-3.ensures.items) tt;
    scale_is = refl;
  };
}
