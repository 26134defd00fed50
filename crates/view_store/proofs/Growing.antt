-- What is added to a listing, and to a store.
use Rattle.std.proofs.Common.{Result, Ok, Err, OnOk, ◌≡◌, ℕ, ◌+◌, Bool, true, false, true≢false, List, [], ◌∷◌, ◌++◌, length, refl, sym, ap, ◌∙◌, subst, arith, fold, append-nil, append_assoc}
use Rattle.la_base.specs.declared.wires.Note.{Note}
use Rattle.view_store.specs.declared.added.Added.{Added}
use Rattle.view_store.specs.declared.added.Added.TheVariants.{Note as NoteAdded, End as EndAdded}
use Rattle.view_store.specs.declared.front.Front.{Front}
use Rattle.view_store.specs.declared.store.Content.{Content}
use Rattle.view_store.specs.declared.store.Change.{Change}
use Rattle.view_store.specs.declared.store.Change.TheVariants.{Add as AddChange, Keep as KeepChange}
use Rattle.view_store.specs.Blocks.{notes_of_block}
use Rattle.view_store.specs.declared.block.Block.{Block}
use Rattle.view_store.specs.Listings.{notes_of, ended_of, is_end, is_empty, is_listing, listing_of, IsFront, GoesOn}
use Rattle.view_store.specs.Stores.{with_change, Owes, IsTied}

-- a change behind changes
pub fold_last : {A B : Type 0} (f : A → B → A) (x : A) (ys : List B) (y : B) → fold f x (ys ++ y ∷ []) ≡ f (fold f x ys) y
fold_last f x [] y = refl
fold_last f x (z ∷ ys) y = fold_last f (f x z) ys y

pub notes_append : (log more : List Added) → notes_of (log ++ more) ≡ notes_of log ++ notes_of more
notes_append [] more = refl
notes_append (NoteAdded note ∷ log) more = ap (λ (l : List (ℕ × Note)). note ∷ l) (notes_append log more)
notes_append (EndAdded ∷ log) more = notes_append log more

pub ended_append : (log : List Added) → ended_of (log ++ EndAdded ∷ []) ≡ true
ended_append [] = refl
ended_append (NoteAdded note ∷ log) = ended_append log
ended_append (EndAdded ∷ log) = refl

pub ended_same : (log : List Added) (note : ℕ × Note) → ended_of (log ++ NoteAdded note ∷ []) ≡ ended_of log
ended_same [] note = refl
ended_same (NoteAdded other ∷ log) note = ended_same log note
ended_same (EndAdded ∷ log) note = refl

-- a listing that goes on is ended by its end alone
pub ended_by : (log : List Added) (added : Added) → ended_of log ≡ false → is_end added ≡ ended_of (log ++ added ∷ [])
ended_by log (NoteAdded note) going = sym (ended_same log note ∙ going)
ended_by log EndAdded going = sym (ended_append log)

-- notes that have what was added, and then a note more
pub owes_note : (before behind : List (ℕ × Note)) (log : List Added) (note : ℕ × Note) → Owes (before ++ behind) log → Owes (before ++ (behind ++ note ∷ [])) (log ++ NoteAdded note ∷ [])
owes_note before behind log note owes = record {
  notes = sym (append_assoc before behind (note ∷ [])) ∙ (ap (λ (l : List (ℕ × Note)). l ++ note ∷ []) owes.notes ∙ sym (notes_append log (NoteAdded note ∷ [])));
}

-- or the end
pub end_added : (notes : List (ℕ × Note)) (log log' : List Added) → log' ≡ log ++ EndAdded ∷ [] → Owes notes log → Owes notes log'
end_added notes log log' longer owes = rw longer (record { notes = owes.notes ∙ (sym (append-nil (notes_of log)) ∙ sym (notes_append log (EndAdded ∷ []))) })

-- the listing to which a note, or the end, was added
pub note_listed : (log : List Added) (note : ℕ × Note) → listing_of (log ++ NoteAdded note ∷ []) ≡ record (listing_of log) { notes = notes_of log ++ note ∷ [] }
note_listed log note i = record { notes = notes_append log (NoteAdded note ∷ []) i; ended = ended_same log note i }

pub end_listed : (log : List Added) → listing_of (log ++ EndAdded ∷ []) ≡ record (listing_of log) { ended = true }
end_listed log i = record { notes = (notes_append log (EndAdded ∷ []) ∙ append-nil (notes_of log)) i; ended = ended_append log i }

empty_is : (log : List Added) → is_empty log ≡ true → log ≡ []
empty_is [] is = refl
empty_is (added ∷ log) is = absurd (true≢false (sym is))

-- a listing that is ended has nothing behind its end
ended_whole : (log rest : List Added) → ended_of log ≡ true → is_listing (log ++ rest) ≡ true → rest ≡ []
ended_whole [] rest ended legal = absurd (true≢false (sym ended))
ended_whole (NoteAdded note ∷ log) rest ended legal = ended_whole log rest ended legal
ended_whole (EndAdded ∷ []) rest ended legal = empty_is rest legal
ended_whole (EndAdded ∷ (added ∷ log)) rest ended legal = absurd (true≢false (sym legal))

-- where a log goes on, its listing does
pub front_goes_on : (log longer : List Added) → IsFront log longer → is_listing longer ≡ true → GoesOn (listing_of log) (listing_of longer)
front_goes_on log longer front legal = record {
  notes = (notes_of front.0, sym (notes_append log front.0) ∙ ap notes_of front.1);
  ended = λ ended. let legal' : is_listing (log ++ front.0) ≡ true = subst (λ (l : List Added). is_listing l ≡ true) (sym front.1) legal in
      let none : front.0 ≡ [] = ended_whole log front.0 ended legal' in
      ap listing_of (sym front.1 ∙ (ap (λ (l : List Added). log ++ l) none ∙ append-nil log));
}

abbrev pub one_more : Bool → ℕ
one_more true = 1
one_more false = 0

empty_listing : (log : List Added) → is_empty log ≡ true → length log ≡ 0
empty_listing [] is = refl
empty_listing (added ∷ log) is = absurd (true≢false (sym is))

-- how much was added: the notes, and the end
pub length_listing : (log : List Added) → is_listing log ≡ true → length log ≡ length (notes_of log) + one_more (ended_of log)
length_listing [] legal = omega arith
length_listing (NoteAdded note ∷ log) legal = let rest = length_listing log legal in omega arith
length_listing (EndAdded ∷ log) legal = let none = empty_is log legal in rw none (omega arith)

-- what a writer's changes make of the content that is shown
module _ (shown shown' : Content) (changes changes' : List Change) (same : shown' ≡ shown) where
  -- a block was handed on
  pub block_added : (block : Block) (behind : List (ℕ × Note)) (log : List Added) → changes' ≡ changes ++ AddChange block ∷ []
      → Owes ((fold with_change shown changes).notes ++ (notes_of_block block ++ behind)) log → Owes ((fold with_change shown' changes').notes ++ behind) log
  block_added block behind log grown owes =
      rw (same, grown, fold_last with_change shown changes (AddChange block)) (record { notes = append_assoc (fold with_change shown changes).notes (notes_of_block block) behind ∙ owes.notes })

  -- the history was kept
  pub front_kept : (front : Front) (behind : List (ℕ × Note)) (log : List Added) → changes' ≡ changes ++ KeepChange front ∷ []
      → Owes ((fold with_change shown changes).notes ++ behind) log → Owes ((fold with_change shown' changes').notes ++ behind) log
  front_kept front behind log grown owes =
      rw (same, grown, fold_last with_change shown changes (KeepChange front)) (record { notes = owes.notes })

pub on_ok : {A E P Q : Type 0} (result : Result A E) → (P → Q) → OnOk result P → OnOk result Q
on_ok (Ok x) f p = f p
on_ok (Err e) f p = p

-- where all that was added is in the changes, and then its history is kept, the content is tied to that history
pub tied_after : (shown shown' next : Content) (changes changes' : List Change) (front front' : Front) (behind : List (ℕ × Note)) → behind ≡ [] → shown' ≡ shown → changes' ≡ changes ++ KeepChange front' ∷ [] → front'.seen ≡ front.seen
    → Owes ((fold with_change shown changes).notes ++ behind) front.seen.log → is_listing front.seen.log ≡ true → next ≡ fold with_change shown' changes' → IsTied next × (next.seen ≡ front.seen)
tied_after shown shown' next changes changes' front front' behind none same grown kept owes legal is =
    let before = fold with_change shown changes in
    let all : next ≡ record before { seen = front.seen } = is ∙ (rw (same, grown) (fold_last with_change shown changes (KeepChange front')) ∙ (λ i. record before { seen = kept i })) in
    let notes : before.notes ≡ notes_of front.seen.log = sym (append-nil before.notes) ∙ (ap (λ (l : List (ℕ × Note)). before.notes ++ l) (sym none) ∙ owes.notes) in
    (rw all (record { owes = record { notes = notes }; legal = legal }), ap (λ (c : Content). c.seen) all)

-- nothing was added
pub blank_tied : (content : Content) → content.notes ≡ [] → content.seen.log ≡ [] → IsTied content
blank_tied content notes log = record { owes = record { notes = notes ∙ sym (ap notes_of log) }; legal = ap is_listing log }

-- a note was put behind those that wait
pub note_added : (before held items items' : List (ℕ × Note)) (log log' : List Added) (note : ℕ × Note) → items' ≡ items ++ note ∷ [] → log' ≡ log ++ NoteAdded note ∷ []
    → Owes (before ++ (held ++ items)) log → Owes (before ++ (held ++ items')) log'
note_added before held items items' log log' note grown longer owes =
    rw (grown, longer, sym (append_assoc held items (note ∷ []))) (owes_note before (held ++ items) log note owes)
