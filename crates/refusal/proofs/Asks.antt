-- The gate at a call of `refuses`: what the call is handed, and that it answers one of the two
-- booleans.
use Rattle.std.proofs.Common.{◌≡◌, ℕ, List, [], ◌∷◌, Bool, refl, ap}
use seplogic.Ra.Ura.{Ura}
use mir.Val.{Val, vptr, vbool}
use base.Logic.{SProp, ent, ex, sep, guard, id⊢}
use base.Fml.{Lft, Share, ftrue, fsep, flft}
use prog.Memory.{Memory}
use prog.Routine.{Routine}
use types.Logic.{Logic, sem}
use contract.Monad.{Fun}
use types.Kit.{‵, ◌⊛◌, some, later, ◌$◌, ◌∵◌, !, qed, move, keep, use1, split, join, pick, fjoin, feq_i, feq_l, check, show, await, updating, raw, now as at_once, done}
use denote.RattleType.{RattleType}
use denote.Memory.{hidden_shr}
use denote.Builtin.{bool}
use denote.Steps.{nothing, only}
use denote.Triple.Statement.{Contract}
use denote.Triple.Spec.{triple_of}
use Rattle.refusal.specs.contracts.Gate as gate
use Rattle.refusal.specs.contracts.Gate.refuses as refuses

abbrev pub Gate : RattleType
Gate = gate.the_row

module _ {M : Type 1} {𝓤 : Ura M} (𝓛 : Logic 𝓤) (at_mem : Memory → SProp 𝓤) (run : Routine → Fun 𝓤)
  where
    abbrev pub Asks : Contract 𝓤
    Asks = triple_of 𝓛 refuses.signature (refuses.spec 𝓛 at_mem run)

    module _ (κ : Lft) (q : Share) (place : ℕ × ℕ) (g : Gate.Denot) where
      open 𝓛 use {H, A}

      abbrev pub asked : Asks.Ghost
      asked = (
        (
          (κ, tt),
          (q, tt),
          tt,
          (record { ref_ptr = place; now = g }, tt),
          (vptr place.0 place.1 ∷ [], tt),
        ),
        tt,
      )

      pub can_ask : ent 𝓤 (sep 𝓤 (sem 𝓛 (hidden_shr Gate κ g place.0 place.1)) (A.lft κ q))
          (Asks.pre asked)
      can_ask =
          qed 𝓛 (‵ (hidden_shr Gate κ g place.0 place.1) ∷ ‵ (flft κ q) ∷ []) ∵
          feq_i ! (List Val) (vptr place.0 place.1 ∷ []) (vptr place.0 place.1 ∷ []) refl $ fjoin !
          $
          nothing ! $ move ! (1 ∷ []) $ fjoin ! $
          nothing ! $ move ! (2 ∷ []) $ join ! $ join ! $ nothing ! $ move ! (1 ∷ []) $ done !

      pub is_answered : (v : Val) → ent 𝓤 (Asks.post asked v)
          (H.⇛ (ex 𝓤 (λ (t : Bool). guard 𝓤 (v ≡ vbool t) (A.lft κ q))))
      is_answered v =
          qed 𝓛 (raw (Asks.post asked v) ∷ []) ∵ updating ! $
          use1 𝓛 (later
          (some (λ (t : Bool). ((‵ (flft κ q) ⊛ ‵ ftrue) ⊛ ‵ (bool.own_val t (v ∷ [])))
          ⊛ some (λ (ws : Unit {0} × Unit {0}). ‵ (fsep ftrue ftrue) ⊛ ‵ ftrue)))) (id⊢ 𝓤 _) $
          await ! tt $ pick ! (λ t. split ! $ split ! $ move ! (1 ∷ []) $ feq_l !
          (λ e. split ! $ at_once ! $
          show ! (λ (t : Bool). guard 𝓤 (v ≡ vbool t) (A.lft κ q)) t $ check ! (ap only e) $ keep !
          (0
          ∷ []) $ done !))
