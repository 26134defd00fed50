-- What is said of machines that are kept as bytes.
use Rattle.std.specs.Prelude.{ℕ, ◌≡◌, ◌^◌, ◌≤◌, List, ◌++◌, length}
use Rattle.wait_cond.specs.declared.scan.Waiter.{Waiter}
use Rattle.wait_cond.specs.Waiting.{consumed_by, wait_from, last_of}

-- the bytes of a value stand behind those that were there
pub record Puts {X : Type 0} (puts : X → List ℕ → Type 0) (x : X) (before after : List ℕ)
    : Type 0 where
  pub bytes : List ℕ
  pub its : puts x bytes
  pub few : length bytes ≤ 192
  pub behind : after ≡ before ++ bytes

-- *one form*: a machine is kept as one list of bytes
abbrev pub OneForm : {X : Type 0} → (X → List ℕ → Type 0) → Type 0
OneForm {X} puts = (x : X) (one other : List ℕ) → puts x one → puts x other → one ≡ other

-- each machine of its setup that is put as these bytes is equal to it
abbrev pub IsOnly : {X S : Type 0} → (X → S) → (X → List ℕ → Type 0) → X → List ℕ → Type 0
IsOnly {X} setup puts machine bytes = (other : X) → setup other ≡ setup machine → puts other bytes
    → other ≡ machine

-- *one saved*: two machines of one setup that have consumed one input save the same bytes
abbrev pub OneSaved : {M S I : Type 0} → (M → S) → (M → I → Type 0) → (M → List ℕ → Type 0) → Type 0
OneSaved {M} {S} {I} setup consumed saves = (one other : M) (input : I) (bytes more : List ℕ)
    → setup one ≡ setup other → consumed one input → consumed other input → saves one bytes
    → saves other more → bytes ≡ more

-- a machine has consumed each input that one of its setup has consumed which saves these bytes
abbrev pub StandsAs : {M S I : Type 0} → (M → S) → (M → I → Type 0) → (M → List ℕ → Type 0) → M
    → List ℕ → Type 0
StandsAs {M} {S} {I} setup consumed saves machine bytes = (other : M) (input : I)
    → setup other ≡ setup machine → saves other bytes → consumed other input
    → consumed machine input

-- numbers that a waiter can have: how many samples it consumed, the sample behind its last stop,
-- and its last value
pub record NumbersFit (consumed from last : ℕ) : Type 0 where
  pub few : consumed ≤ 2 ^ 60
  pub within : from ≤ consumed
  pub unseen : consumed ≡ 0 → last ≡ 0

-- a driver saves the numbers of its waiter, and behind them the bytes of its machine
pub record DriverSaves {L : Type 0} (fits : ℕ × (ℕ × ℕ) → Type 0) (bytes_of : ℕ × (ℕ × ℕ) → List ℕ)
    (puts : L → List ℕ → Type 0) (machine : L) (waiter : Waiter) (bytes : List ℕ) : Type 0 where
  pub rest : List ℕ
  pub its : puts machine rest
  pub numbers : fits (consumed_by waiter, (wait_from waiter, last_of waiter))
  pub parts : bytes ≡ bytes_of (consumed_by waiter, (wait_from waiter, last_of waiter)) ++ rest

-- a follower saves the start of the last packet that counted, and behind it the bytes of its
-- machine
pub record FollowerSaves {D : Type 0} (fits : ℕ → Type 0) (bytes_of : ℕ → List ℕ)
    (puts : D → List ℕ → Type 0) (machine : D) (from : ℕ) (bytes : List ℕ) : Type 0 where
  pub rest : List ℕ
  pub its : puts machine rest
  pub number : fits from
  pub parts : bytes ≡ bytes_of from ++ rest
