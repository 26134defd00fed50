-- What holds of the order of a listing.
use Rattle.std.specs.Prelude.{◌≡◌, ℕ, List}
use Rattle.std.specs.List.{filter}
use Rattle.std.specs.List.Sorted.{IsSorted, IsStable}
use Rattle.note_order.specs.Order.{entry_cmp, in_order, is_of}
use Rattle.note_order.specs.declared.entry.Entry.{Entry}

-- a list that is in order and has the same entries of each start and instance, in the same order,
-- is the listing
abbrev pub OneOrder : Type 0
OneOrder =
    (entries others : List Entry) → IsSorted entry_cmp others → IsStable entry_cmp entries others
    → others ≡ in_order entries

-- the listing is in order, and has the same entries of each start and instance, in the same order
abbrev pub KeepsEachInstance : Type 0
KeepsEachInstance =
    (entries : List Entry)
    → IsSorted entry_cmp (in_order entries) × IsStable entry_cmp entries (in_order entries)

-- two lists with the same entries of each instance, in the same order, have one listing
abbrev pub InstancesMakeTheListing : Type 0
InstancesMakeTheListing =
    (entries others : List Entry)
    → ((instance : ℕ) → filter (is_of instance) entries ≡ filter (is_of instance) others)
    → in_order entries ≡ in_order others
