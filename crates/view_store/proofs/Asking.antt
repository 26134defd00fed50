-- What is known after an ask.
use Rattle.std.proofs.Common.{All, [], ◌∷◌, ◌++◌, ◌≡◌, ℕ, true, List, Option, Some, None, Result, Ok, Err, refl, sym, subst}
use Rattle.std.proofs.lemmas.List.Elements.{All-append, All-cons, All-nil}
use Rattle.la_base.specs.declared.names.NoMemory.{NoMemory}
use Rattle.view_store.specs.declared.added.Added.{Added}
use Rattle.view_store.specs.declared.views.Answer.{Answer}
use Rattle.view_store.specs.Listings.{Listing, is_listing, listing_of, GoesOn}
use Rattle.view_store.specs.Views.{Asked}
use Rattle.view_store.proofs.Fronts.{front_self}
use Rattle.view_store.proofs.Growing.{front_goes_on}

pub goes_on_self : (listing : Listing) → GoesOn listing listing
goes_on_self listing = record { notes = front_self listing.notes; ended = λ ended. refl }

stays : (old new : List Added) → new ≡ old → GoesOn (listing_of old) (listing_of new)
stays old new same = subst (λ (l : List Added). GoesOn (listing_of old) (listing_of l)) (sym same) (goes_on_self (listing_of old))

pub asked_later : (old new : List Added) (start end : ℕ) (result : Option (Result Answer NoMemory)) → is_listing new ≡ true → Asked old new start end result → GoesOn (listing_of old) (listing_of new)
asked_later old new start end None legal asked = stays old new asked
asked_later old new start end (Some (Ok answer)) legal asked = front_goes_on old new asked.0 legal
asked_later old new start end (Some (Err none)) legal asked = stays old new asked

-- one more that passes
pub all_last : {A : Type 0} (P : A → Type 0) (xs : List A) (x : A) (ys : List A) → ys ≡ xs ++ x ∷ [] → All P xs → P x → All P ys
all_last {A} P xs x ys is all one = subst (All P) (sym is) (All-append P xs (x ∷ []) all (All-cons P x [] one (All-nil P)))
