-- The bytes that were taken of a capture, with other words on its end.
use Rattle.std.proofs.Common.{ℕ, List, ◌++◌, Option}
use Rattle.la_io.specs.Capture.{Told}
use Rattle.capture_any.specs.Listings.{Lists, Says}
use Rattle.capture_any.specs.declared.end.ListingEnd.{ListingEnd}
use Rattle.capture_any.specs.declared.form.Form.{Form}
use Rattle.decode_job.specs.Parting.{PartLists, PartSays}
use Rattle.decode_job.specs.declared.part_end.PartEnd.{PartEnd}

module _ {Checked Whole Front Cut Beyond : List ℕ → Type 0} {form : Form} {pins before : List ℕ} {then : Told} {left_old left_new : Option (List ℕ)} {end : PartEnd} where
  -- those of a whole capture, as of a part
  pub as_part : {All Some : List ℕ → Type 0} {last : ListingEnd} → Lists form pins All Some before then left_old left_new last
      → ((bytes : List ℕ) (told : Told) → Says form pins All Some bytes told last → PartSays Checked Whole Front Cut Beyond form pins bytes told end)
      → PartLists Checked Whole Front Cut Beyond form pins before then left_old left_new end
  as_part lists says = record {
    bytes = lists.bytes;
    told = lists.told;
    taken = lists.taken;
    later = lists.later;
    at_end = lists.at_end;
    says = says (before ++ lists.bytes) lists.told lists.says;
  }

  -- those of a part
  pub part_on : {Checks Wholes Fronts Cuts Beyonds : List ℕ → Type 0} {last : PartEnd} → PartLists Checks Wholes Fronts Cuts Beyonds form pins before then left_old left_new last
      → ((bytes : List ℕ) (told : Told) → PartSays Checks Wholes Fronts Cuts Beyonds form pins bytes told last → PartSays Checked Whole Front Cut Beyond form pins bytes told end)
      → PartLists Checked Whole Front Cut Beyond form pins before then left_old left_new end
  part_on lists says = record {
    bytes = lists.bytes;
    told = lists.told;
    taken = lists.taken;
    later = lists.later;
    at_end = lists.at_end;
    says = says (before ++ lists.bytes) lists.told lists.says;
  }
