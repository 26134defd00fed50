use Rattle.std.proofs.Common.{◌≡◌, ◌≤◌, All, vec_len, vec_capacity}
use Rattle.view_store.specs.Listings.{nothing}
use Rattle.view_store.specs.Views.{known, pending, published, reader_shelf, shelf_of}
use Rattle.view_store.proofs.views.make.shelf.Given as goal

abbrev pub invariant-loop : goal.invariant-loop
invariant-loop g l = record {
  published : published l.writer ≡ nothing;
  pending : pending l.writer ≡ nothing;
  count : vec_len l.made ≡ l.counter;
  room : l.readers ≤ vec_capacity l.made;
  within : l.counter ≤ l.readers;
  own : All (λ reader. reader_shelf reader ≡ shelf_of l.writer) l.made.items;
  known : All (λ reader. known reader ≡ nothing) l.made.items;
}
