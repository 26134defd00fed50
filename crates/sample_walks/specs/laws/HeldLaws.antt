-- What a machine answers that holds what a walk keeps of the samples up to its last stop.
use Rattle.std.proofs.Common.{◌≡◌, ◌≢◌, ℕ, ◌+◌, ◌≤◌, true, List, [], ◌++◌, take, length, Option}
use Rattle.std.proofs.Common.{sym, ◌∙◌, ap, subst}
use Rattle.std.proofs.Math.Nat.{le_refl}
use Rattle.la_base.specs.Samples.{before_of}
use Rattle.la_base.specs.declared.wires.Out.{Out}
use Rattle.wait_cond.specs.Stops.{MetSet}
use Rattle.decoder_core.specs.Promises.{IsFloor, GivesFrom, Rests, StopsIn}
use Rattle.sample_walks.specs.Walks.{Walk, walked, given, EndsThere, Sound}
use Rattle.sample_walks.specs.laws.WalkLaws.{walked_quiet, outs_quiet, outs_floor, outs_packets}
use Rattle.sample_walks.specs.laws.WalkLaws.{one_stop}
use Rattle.sample_walks.specs.laws.WalkLaws.{stop_fits, stop_set, stop_moves, stop_gives}
use Rattle.sample_walks.specs.laws.WalkLaws.{stop_keeps, stop_ends}

-- what holds of a stop: the sample before it, that the state moves there, what it gives and what is
-- then kept
pub record Stopped {H : Type 0} (w : Walk H) (fits : H → ℕ → Option ℕ → Type 0)
    (outs : List ℕ → List Out) (held : H) (seen whole : List ℕ) (at value met : ℕ) : Type 0 where
  pub before : Option ℕ
  pub fit : fits held at before
  pub set : MetSet (w.alts held) before value (length seen) at met
  pub some : met ≢ 0
  pub moves : w.moves held at before value ≡ true
  pub gives : outs (take (at + 1) whole) ≡ outs seen ++ w.gives held at before value
  pub keeps : w.next held at before value ≡ walked w (take (at + 1) whole)
  pub ends : EndsThere w (take (at + 1) whole)

module _ {H : Type 0} (w : Walk H) (fits : H → ℕ → Option ℕ → Type 0) (timed : H → ℕ → Type 0)
    (sound : Sound w fits timed) (outs : List ℕ → List Out)
    (same : (list : List ℕ) → outs list ≡ given w list)
    (held : H) (seen more : List ℕ) (ends : EndsThere w seen) (is : held ≡ walked w seen) where
  module _ (none : Rests (w.alts held) seen more) where
    none_then : Rests (w.alts (walked w seen)) seen more
    none_then = subst (λ (h : H). Rests (w.alts h) seen more) is none

    pub held_quiet : outs (seen ++ more) ≡ outs seen
    held_quiet = outs_quiet w fits timed sound outs same seen more ends none_then

    held_still : held ≡ walked w (seen ++ more)
    held_still = is ∙ sym (walked_quiet w fits timed sound seen more ends none_then)

    pub held_one_stop : EndsThere w (seen ++ more) → more ≡ []
    held_one_stop also = one_stop w fits timed sound seen more ends also none_then

    module _ (count result : ℕ) (count_is : count ≡ length (seen ++ more))
        (result_is : result ≡ w.near held count) where
      near_is : result ≡ w.near (walked w (seen ++ more)) (length (seen ++ more))
      near_is = result_is ∙ (λ i. w.near (held_still i) (count_is i))

      pub held_floor : IsFloor outs (seen ++ more) result
      held_floor =
          subst (λ (n : ℕ). IsFloor outs (seen ++ more) n) (sym near_is)
          (outs_floor w fits timed sound outs same (seen ++ more))

      pub held_packets : GivesFrom outs (seen ++ more) result
      held_packets =
          subst (λ (n : ℕ). GivesFrom outs (seen ++ more) n) (sym near_is)
          (outs_packets w fits timed sound outs same (seen ++ more))

      pub held_near : (near : List ℕ → ℕ)
          → ((list : List ℕ) → near list ≡ w.near (walked w list) (length list))
          → near (seen ++ more) ≤ result
      held_near near by =
          subst (λ (n : ℕ). near (seen ++ more) ≤ n) (by (seen ++ more) ∙ sym near_is)
          (le_refl (near (seen ++ more)))

  pub held_stop : (at value met : ℕ) → StopsIn (w.alts held) seen more at value met
      → Stopped w fits outs held seen (seen ++ more) at value met
  held_stop at value met s =
      let stop : StopsIn (w.alts (walked w seen)) seen more at value met =
      subst (λ (h : H). StopsIn (w.alts h) seen more at value met) is s in
      let whole = seen ++ more in
      let before = before_of whole at in
      record {
        before = before;
        fit = subst (λ (h : H). fits h at before) (sym is)
            (stop_fits w fits timed sound seen more ends at value met stop);
        set = subst (λ (h : H). MetSet (w.alts h) before value (length seen) at met) (sym is)
            (stop_set w fits timed sound seen more ends at value met stop);
        some = s.stop.some;
        moves = ap (λ (h : H). w.moves h at before value) is
            ∙ stop_moves w fits timed sound seen more ends at value met stop;
        gives = same (take (at + 1) whole)
            ∙ stop_gives w fits timed sound seen more ends at value met stop
            ∙ (λ i. sym (same seen) i ++ w.gives (sym is i) at before value);
        keeps = ap (λ (h : H). w.next h at before value) is
            ∙ sym (stop_keeps w fits timed sound seen more ends at value met stop);
        ends = stop_ends w fits timed sound seen more ends at value met stop;
      }
