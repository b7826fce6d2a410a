-- The block goes back to the inner allocator. The gate is not asked.
use Rattle.std.proofs.Common.{◌≡◌, ℕ, ◌+◌, ◌^◌, ◌<◌, List, [], ◌∷◌, refl, w64, Bor}
use seplogic.Ra.Ura.{Ura}
use mir.Syntax.{Ty, Args, Fn, a_type, dnil, dcons}
use mir.Val.{Val, vunit, vint, vptr}
use mir.MapTy.{inst_fn}
use base.Logic.{SProp, ent, id⊢, never_e}
use base.Fml.{Lft, Share, ffalse, ftrue, fsep, froom, flft}
use prog.Memory.{Memory, size, align, capped, up}
use prog.Routine.{Routine}
use prog.Wp.{WpFn, Tables}
use types.Logic.{Logic}
use types.Kit.{Item, ‵, raw, ◌⊛◌, later, given, learn, ◌$◌, ◌∵◌, !, qed, by, move, keep, use1, split, split3, join, fsplit, fjoin, feq_i, suffices, await, done}
use types.Run.{stop, fld, addr, of_opd, unit_lit, no_more, and_then, returns, enter}
use types.ByLocal.{alloc_all, pass_all, free_all, look_at, get, through, sets, lands_as}
use contract.BorrowLft.{◌⊑◌, ⊑_trans}
use contract.Monad.{Fun, fact}
use contract.Running.{tables, tables_of}
use sound.WpLaws.{fm_of, WpFn-mono}
use denote.Builtin.{usize, RawPtr, RefOf}
use denote.Exit.{yes}
use denote.Opens.{unhide}
use denote.Param.{bounded, param}
use denote.Plain.{uint_vals, uint_Tells}
use denote.RattleType.{owns}
use denote.RawPtr.{Ptr, block_ptr, null_ptr, ptr_val, rawptr_vals, rawptr_Tells}
use denote.Ref.{shr_vals}
use denote.Signature.{Slot, plain, types_at}
use denote.Steps.{heard, nothing}
use denote.Triple.Call.{calls_at}
use denote.Triple.Clauses.{Ended, Clauses}
use denote.Triple.Spec.{triple_of}
use denote.Triple.Statement.{Triple}
use denote.Triple.Table.{entered}
use denote.Triple.Walked.{Stays, stay_dropped, walk_of, ends_at, walked, Goes-dropped, walk_Meets}
use Rattle.std.proofs.alloc.Calls.{Al, α, seen, token, gives_key, Gives, at_gives, Gives-goes, Gives-Gives}
use Rattle.refusal.specs.contracts.Refusing as refusing
use Rattle.refusal.specs.contracts.RefusingAllocator.deallocate as f
use Rattle.refusal.specs.contracts.RefusingAllocator.deallocate.Key as key
use Rattle.refusal.proofs.RefusingAllocator.deallocate.Statement.{statement}
use Rattle.refusal.proofs.RefusingAllocator.deallocate.Code as code

abbrev number : Slot 2
number = plain (λ _. usize)

abbrev pointer : Slot 2
pointer = plain (λ _. RawPtr)

module _ (Z : Al) where
  abbrev args : Args
  args = bounded (a_type ∷ []) (Z.row, tt) (dcons Z.d (dcons Z.drops dnil))

  abbrev here : Fn
  here = inst_fn args code.function

  abbrev self : Slot 2
  self = RefOf (0 ∷ []) tt (plain (λ _. refusing.the_row (param 0 Z.row))) (λ _. tt)

  abbrev ended : Ended
  ended = f.ended Z.row Z.g Z.d Z.drops

  abbrev stayed : Stays ended.signature.params ended.kept
  stayed = (
    stay_dropped self yes,
    (
      stay_dropped pointer yes,
      (stay_dropped number yes, (stay_dropped number yes, tt)),
    ),
  )

module _ (Z : Al) {M : Type 1} {𝓤 : Ura M} (𝓛 : Logic 𝓤) (at_mem : Memory → SProp 𝓤) (run : Routine
    → Fun 𝓤) (𝓣 : Tables 𝓤 𝓛.H)
    (gives : Triple 𝓤 (𝓣.C (gives_key Z)) (Gives Z 𝓛 at_mem run)) where
  open 𝓛 use {H}

  abbrev clauses : Clauses 𝓤 (ended Z)
  clauses = f.clauses Z.row Z.g Z.d Z.drops 𝓛 at_mem run

  module _ (κ₁ κ₂ : Lft) (q₁ q₂ : Share) (inn : κ₁ ⊑ κ₂) (r : Bor (refusing.the_row Z.row).Denot)
      (n a : ℕ) (τ : Ty) where
    abbrev bound : Ptr → (walk_of 𝓛 (ended Z) (stayed Z) clauses).Ghost
    bound p = (
      (
        (κ₁, (κ₂, tt)),
        (q₁, (q₂, tt)),
        (inn, tt),
        (r, (p, (n, (a, tt)))),
        (shr_vals r, (rawptr_vals p, (vint w64 n ∷ [], (vint w64 a ∷ [], tt)))),
      ),
      τ,
    )

    abbrev vs : Ptr → List Val
    vs p = vptr r.ref_ptr.0 r.ref_ptr.1 ∷ ptr_val p ∷ vint w64 n ∷ vint w64 a ∷ []

    abbrev Post : Ptr → Val → SProp 𝓤
    Post p = (walk_of 𝓛 (ended Z) (stayed Z) clauses).post (bound p)

    abbrev arguments : Ptr → Item 𝓤
    arguments p = (‵ (flft κ₁ q₁) ⊛ ‵ (flft κ₂ q₂) ⊛ ‵ ftrue) ⊛ ‵
        (owns (types_at (ended Z).signature.params (bound p).0.0) (bound p).0.3 (bound p).0.4)

    abbrev Sized : Type 0
    Sized = (capped (size τ) ≡ n) × (capped (align τ) ≡ a)

    abbrev handle : Z.row.Denot
    handle = r.now.inner

    abbrev handle_at : ℕ × ℕ
    handle_at = (r.ref_ptr.0, r.ref_ptr.1 + up (align (α Z)) 0)

    walk : n < 2 ^ 64 → a < 2 ^ 64 → (p : Ptr) →
        ent 𝓤 ((walk_of 𝓛 (ended Z) (stayed Z) clauses).pre (bound p))
        (WpFn 𝓤 H 𝓣.C 𝓣.Λ (here Z) (vs p) (Post p))
    walk fn fa null_ptr =
        -- no block lies at null
        qed 𝓛 (arguments null_ptr
        ∷ (raw (fact 𝓤 (κ₂ ⊑ Z.row.lives)) ⊛ raw (fact 𝓤 Sized) ⊛ ‵
        (fsep ffalse (token Z handle τ null_ptr))) ∷ []) ∵
        move ! (1 ∷ []) $ split3 ! $ move ! (2 ∷ []) $ fsplit ! $ keep ! (0 ∷ []) $ by !
        (never_e 𝓤 _)
    walk fn fa (block_ptr b o) =
        let p : Ptr = block_ptr b o in
        let y : (Gives Z 𝓛 at_mem run).Ghost =
        at_gives Z 𝓛 at_mem run κ₁ q₁ handle_at handle b o n a τ in
        qed 𝓛 (arguments p ∷ (raw (fact 𝓤 (κ₂ ⊑ Z.row.lives)) ⊛ raw (fact 𝓤 Sized) ⊛ ‵
        (fsep (froom τ b o) (token Z handle τ p))) ∷ []) ∵
        move ! (1 ∷ []) $ split3 ! $ heard ! (κ₂ ⊑ Z.row.lives)
        (λ le. heard ! Sized (λ sized. move ! (1 ∷ []) $
        split ! $ split ! $ move ! (2 ∷ []) $ fsplit ! $ fsplit ! $ move ! (1 ∷ []) $ unhide ! $
        fsplit ! $ fsplit ! $ use1 𝓛 (‵ (seen Z κ₁ handle_at handle)) (id⊢ 𝓤 _) $
        keep ! (0 ∷ 5 ∷ 6 ∷ 7 ∷ []) $ enter ! 𝓣.C 𝓣.Λ (here Z) (vs p) _ $
        alloc_all ! (λ l. pass_all ! refl (
          (tt, tt),
          ((tt, tt), ((tt, record { fits = fn }), ((tt, record { fits = fa }), tt))),
        ) $
        -- [the `&` to the inner handle; its lifetime's token; the other token; the block with its
        -- right]
        sets ! (addr ! (through ! refl (fld ! refl (stop !)))) refl (tt, tt) $
        join ! $ move ! (2 ∷ []) $ fsplit ! $ move ! (1 ∷ 2 ∷ []) $ join ! $ move ! (1 ∷ 0 ∷ []) $
        join ! $
        use1 𝓛 (raw ((Gives Z 𝓛 at_mem run).pre y))
        (Gives-goes Z 𝓛 at_mem run κ₁ q₁ handle_at handle (⊑_trans κ₁ κ₂ Z.row.lives inn le) b o
        n a τ sized.0 sized.1 fn fa) $
        calls_at ! (fm_of 𝓤 H 𝓛.laws 𝓣) (Gives Z 𝓛 at_mem run) gives y
        (and_then ! (get ! refl) (and_then ! (get ! refl)
        (and_then ! (get ! refl) (and_then ! (get ! refl) (no_more !))))) (λ v.
        use1 𝓛 (later (given (v ≡ vunit) (‵ (flft κ₁ q₁))))
        (Gives-Gives Z 𝓛 at_mem run κ₁ q₁ handle_at handle b o n a τ v) $ await ! tt $ learn !
        (λ is_unit.
        lands_as ! is_unit refl (tt, tt) $ sets ! (of_opd ! (unit_lit !)) refl (tt, tt) $ returns !
        (look_at ! 0 refl) $ free_all ! refl $
        suffices ! _ (ends_at 𝓛 (ended Z) (stayed Z) clauses (bound p) vunit tt (
          tt,
          (tt, (tt, (tt, tt))),
        ) (tt, (tt, (tt, (tt, tt))))) $
        nothing ! $ feq_i ! (List Val) (vunit ∷ []) (vunit ∷ []) refl $ nothing ! $ nothing ! $
        fjoin ! $ nothing ! $ fjoin ! $ nothing ! $ fjoin ! $ nothing ! $ fjoin ! $ join ! $
        move ! (2 ∷ 3 ∷ []) $ join ! $ join ! $ done !)))))

pub deallocate_spec : {M : Type 1} → statement M
unfolding tables_of
deallocate_spec 𝓤 𝓛 𝓜 𝓡 wired row laws g d drops met _ =
    let Z : Al = record { row = row; laws = laws; g = g; d = d; drops = drops } in
    let 𝓣 : Tables 𝓤 𝓛.H = tables_of 𝓤 𝓛.H 𝓜 (tables 𝓤 𝓛.H 𝓜 𝓡 𝓡.env) in
    let wp = WpFn 𝓤 𝓛.H 𝓣.C 𝓣.Λ (here Z) in
    let c = f.clauses row g d drops 𝓛 𝓜.mem 𝓡.returns in
    let goes = Goes-dropped 𝓛 2 number yes (λ κs x f. refl) in
    entered 𝓤 𝓛.H (triple_of 𝓛 (f.signature row) (f.spec row g d drops 𝓛 𝓜.mem 𝓡.returns)) 𝓣.C 𝓣.Λ
    (key.name (args Z)) (here Z) (code.unfolded 𝓤 𝓛.H 𝓜 𝓡 wired (row, tt) d drops)
    (walk_Meets 𝓛 (ended Z) (stayed Z) (
      Goes-dropped 𝓛 2 (self Z) yes (λ κs x f. refl),
      (Goes-dropped 𝓛 2 pointer yes (λ κs x f. refl), (goes, (goes, tt))),
    ) c wp
    (WpFn-mono 𝓤 𝓛.H 𝓛.laws 𝓣 (here Z))
    (walked 𝓛 (ended Z) (stayed Z) c wp (λ κs. (
      shr_vals,
      (rawptr_vals, (uint_vals w64, (uint_vals w64, tt))),
    ))
    (λ κs. ((λ r vs s. s.0), (rawptr_Tells, (uint_Tells w64, (uint_Tells w64, tt)))))
    (λ κs qs bounds a τ are. walk Z 𝓛 𝓜.mem 𝓡.returns 𝓣 (met.deallocate drops) κs.0 κs.1.0 qs.0
    qs.1.0 bounds.0 a.0 a.1.1.0 a.1.1.1.0 τ are.1.1.0.1 are.1.1.1.0.1 a.1.0)))
