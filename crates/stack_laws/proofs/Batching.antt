-- Batches of what a stage has consumed, with a floor behind each.
use Rattle.std.proofs.Common.{◌≡◌, ℕ, ◌≤◌, Bool, true, false, List, [], ◌∷◌, ◌++◌, Option, Some, None, refl, sym, ◌∙◌, ap, subst, append_assoc, append-nil}
use Rattle.std.proofs.lemmas.List.{append_cancel_left}
use Rattle.la_base.specs.declared.wires.Mark.{Mark}
use Rattle.la_base.specs.declared.wires.Mark.TheVariants.{Floor as FloorMark, End as EndMark}
use Rattle.la_base.specs.declared.wires.Out.{Out}
use Rattle.tree_io.specs.Feeds.{together}
use Rattle.tree_io.proofs.Together.{together-last}
use Rattle.decoder_core.specs.Inputs.{Item}
use Rattle.tree_io.specs.Feeds.{marks_of}
use Rattle.decoder_core.specs.Promises.{GivesNothing}
use Rattle.tree_runs.specs.Floors.{Floored}
use Rattle.tree_runs.proofs.Flooring.{floored-append}
use Rattle.tree_io.proofs.Taking.{marks-append}
use Rattle.stack_laws.specs.Feeds.{mark_end, floor_mark, is_floor}
use Rattle.stack_laws.specs.Keeping.{Batched}

module _ (whole : List Item → List Out) (near : List Item → ℕ) where
  -- one more batch, and the floor behind it
  pub batch_more : (batches : List (List Item)) (since : List Item) (front : List Mark) (new : List Out) (floor : ℕ) → Floored whole near [] batches front
      → whole (together batches ++ since) ≡ whole (together batches) ++ new → near (together batches ++ since) ≤ floor
      → Floored whole near [] (batches ++ since ∷ []) (front ++ (marks_of new ++ FloorMark floor ∷ []))
  batch_more batches since front new floor floored adds low =
      floored-append whole near [] batches (since ∷ []) front (marks_of new ++ FloorMark floor ∷ []) floored (new, floor, [], adds, low, refl, refl)

  -- no batch yet
  pub batched_none : GivesNothing whole → Batched whole near [] true false []
  batched_none nothing = record {
    batches = [];
    since = [];
    front = [];
    new = [];
    cut = refl;
    floored = refl;
    adds = sym (append-nil (whole []));
    marks = refl;
    none_since = λ _. refl;
    all_told = λ is. absurd cc;
  }

  module _ (consumed : List Item) (told closed : Bool) (made : List Mark) (b : Batched whole near consumed told closed made) where
    -- where a floor was told behind all, the batches are all
    pub whole_batches : told ≡ true → (consumed ≡ together b.batches) × (b.new ≡ [])
    whole_batches is =
        let all : consumed ≡ together b.batches = b.cut ∙ ap (λ (l : List Item). together b.batches ++ l) (b.none_since is) ∙ append-nil (together b.batches) in
        (all, append_cancel_left (whole (together b.batches)) b.new [] (sym b.adds ∙ ap whole all ∙ sym (append-nil (whole (together b.batches)))))

    -- End joins the marks
    pub batched_close : (now : Bool) → told ≡ true → closed ≡ false → now ≡ true → Batched whole near consumed told now (made ++ EndMark ∷ [])
    batched_close now is going ends = record {
      batches = b.batches;
      since = b.since;
      front = b.front;
      new = b.new;
      cut = b.cut;
      floored = b.floored;
      adds = b.adds;
      marks =
          (λ k. b.marks k ++ EndMark ∷ [])
          ∙ append_assoc b.front (marks_of b.new ++ mark_end closed) (EndMark ∷ [])
          ∙ ap (λ (l : List Mark). b.front ++ l) (append_assoc (marks_of b.new) (mark_end closed) (EndMark ∷ []) ∙ (λ k. marks_of b.new ++ (mark_end (going k) ++ EndMark ∷ [])) ∙ (λ k. marks_of b.new ++ mark_end (sym ends k)));
      none_since = b.none_since;
      all_told = λ _. is;
    }

    module _ (going : closed ≡ false) (items : List Item) (new : List Out) (adds : whole (consumed ++ items) ≡ whole consumed ++ new) where
      abbrev since : List Item
      since = b.since ++ items

      abbrev all_new : List Out
      all_new = b.new ++ new

      same_items : consumed ++ items ≡ together b.batches ++ since
      same_items = ap (λ (l : List Item). l ++ items) b.cut ∙ append_assoc (together b.batches) b.since items

      adds_all : whole (consumed ++ items) ≡ whole (together b.batches) ++ all_new
      adds_all = adds ∙ ap (λ (l : List Out). l ++ new) b.adds ∙ append_assoc (whole (together b.batches)) b.new new

      -- what was made, with the marks of what is given now and anything behind
      marks_all : (rest : List Mark) → made ++ (marks_of new ++ rest) ≡ b.front ++ (marks_of all_new ++ rest)
      marks_all rest =
          ap (λ (l : List Mark). l ++ (marks_of new ++ rest)) (b.marks ∙ (λ k. b.front ++ (marks_of b.new ++ mark_end (going k))) ∙ ap (λ (l : List Mark). b.front ++ l) (append-nil (marks_of b.new)))
          ∙ append_assoc b.front (marks_of b.new) (marks_of new ++ rest)
          ∙ ap (λ (l : List Mark). b.front ++ l) (sym (append_assoc (marks_of b.new) (marks_of new) rest) ∙ ap (λ (l : List Mark). l ++ rest) (sym (marks-append b.new new)))

      -- more is consumed, with a floor behind it or none
      pub batched_step : (floor : Option ℕ) → ((start : ℕ) → floor ≡ Some start → near (consumed ++ items) ≤ start)
          → Batched whole near (consumed ++ items) (is_floor floor) closed (made ++ (marks_of new ++ floor_mark floor))
      batched_step None may = record {
        batches = b.batches;
        since = since;
        front = b.front;
        new = all_new;
        cut = same_items;
        floored = b.floored;
        adds = adds_all;
        marks = marks_all [] ∙ (λ k. b.front ++ (marks_of all_new ++ mark_end (sym going k)));
        none_since = λ is. absurd cc;
        all_told = λ is. let no : true ≡ false = sym is ∙ going in absurd cc;
      }
      batched_step (Some start) may =
          let front = b.front ++ (marks_of all_new ++ FloorMark start ∷ []) in
          let all : together (b.batches ++ since ∷ []) ≡ consumed ++ items = together-last b.batches since ∙ sym same_items in
          record {
            batches = b.batches ++ since ∷ [];
            since = [];
            front = front;
            new = [];
            cut = sym all ∙ sym (append-nil (together (b.batches ++ since ∷ [])));
            floored = batch_more b.batches since b.front all_new start b.floored (ap whole (sym same_items) ∙ adds_all) (subst (λ (l : List Item). near l ≤ start) same_items (may start refl));
            adds = ap whole (sym all) ∙ sym (append-nil (whole (together (b.batches ++ since ∷ []))));
            marks = marks_all (FloorMark start ∷ []) ∙ sym (append-nil front) ∙ (λ k. front ++ mark_end (sym going k));
            none_since = λ _. refl;
            all_told = λ _. refl;
          }
