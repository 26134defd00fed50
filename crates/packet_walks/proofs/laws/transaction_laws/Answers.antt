use Rattle.packet_walks.specs.laws.TransactionPromises.{ReachedOpen}
use Rattle.packet_walks.specs.laws.TransactionLaws.{promises, floor_is}
use Rattle.packet_walks.proofs.laws.transaction_laws.Goals as goal

pub returns : goal.returns
returns g c = λ device steps wants kept sound pushed.
    (promises device steps wants (ReachedOpen device steps wants kept) kept sound pushed, floor_is device steps wants (ReachedOpen device steps wants kept) kept sound pushed)
