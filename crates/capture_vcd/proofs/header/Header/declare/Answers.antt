use Rattle.std.proofs.Common.{◌∙◌, ◌++◌, ap, rules, refl, map, List, ℕ}
use Rattle.capture_vcd.specs.Gathered.{names_by, placed}
use Rattle.capture_vcd.specs.Places.{places_of}
use Rattle.capture_vcd.specs.declared.section.Word.{Word}
use Rattle.capture_vcd.proofs.Declaring.{text_is}
use Rattle.capture_vcd.proofs.header.Header.declare.Goals as goal

pub returns : goal.returns
returns c =
    let s = c.args.self.now in
    record {
      kind_stays = refl;
      names = c.in_ok-push_names.ensures ∙ ap (λ (l : List Word). s.names ++ names_by c.args.width (map placed l)) c.deref.ensures.value;
      places = c.in_ok-push_places.ensures ∙ ap (λ (n : ℕ). s.places.items ++ places_of n c.args.width) (c.len-variable.ensures ∙ search rules);
      code = c.in_ok-to_vec.field-0;
      code_is = search (rules, text_is);
      codes = c.in_ok-push.ensures.items;
      scale = refl;
    }
