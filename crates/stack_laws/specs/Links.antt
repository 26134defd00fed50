-- A link between two stages, or between a stage and the driver, as lists that only grow.
use Rattle.std.specs.Prelude.{ℕ, ◌≡◌, ◌+◌, ◌≤◌, ◌<◌, Bool, true, false, ◌||◌, List, [], ◌∷◌, ◌++◌}
use Rattle.std.specs.Prelude.{length}

-- what the sender has made for a link, what of that it has sent, and what of that was received;
-- what was made and not sent yet is kept
pub record Link (T : Type 0) : Type 0 where
  pub made : List T
  pub sent : List T
  pub received : List T

abbrev pub no_link : {T : Type 0} → Link T
no_link = record { made = []; sent = []; received = [] }

-- a list begins with another one
abbrev pub IsFront : {T : Type 0} → List T → List T → Type 0
IsFront {T} front all = (rest : List T) × (all ≡ front ++ rest)

-- behind a front of a list, this element is the next
abbrev pub IsNext : {T : Type 0} → List T → T → List T → Type 0
IsNext {T} front element all = (rest : List T) × (all ≡ front ++ element ∷ rest)

-- some element passes a test
abbrev pub some : {T : Type 0} → (T → Bool) → List T → Bool
some test [] = false
some test (x ∷ xs) = test x || some test xs

-- the end stands only as the last element
abbrev pub EndsLast : {T : Type 0} → (T → Bool) → List T → Type 0
EndsLast is_end [] = Unit {0}
EndsLast is_end (x ∷ xs) = (is_end x ≡ true → xs ≡ []) × EndsLast is_end xs

-- *link*: what was received is a front of what was sent, and this of what was made; at most `slots`
-- lie between; the end is the last
pub record IsLink {T : Type 0} (is_end : T → Bool) (slots : ℕ) (link : Link T) : Type 0 where
  pub sends : IsFront link.sent link.made
  pub receives : IsFront link.received link.sent
  pub room : length link.sent ≤ length link.received + slots
  pub last : EndsLast is_end link.made

-- a link has a free slot
abbrev pub IsFree : {T : Type 0} → ℕ → Link T → Type 0
IsFree slots link = length link.sent < length link.received + slots
