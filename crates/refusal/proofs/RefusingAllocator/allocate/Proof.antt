-- A refused request is answered `Err`, and any other one as the inner allocator answers it.
use Rattle.std.proofs.Common.{◌≡◌, ℕ, ◌+◌, ◌^◌, ◌<◌, Bool, true, false, List, [], ◌∷◌, Ok, Err, refl, w64, Bor}
use seplogic.Ra.Ura.{Ura}
use mir.Syntax.{Ty, Args, Fn, a_type, dnil, dcons}
use mir.Val.{Val, vint, vptr, vbool}
use mir.MapTy.{inst_fn}
use base.Logic.{SProp, ent, id⊢}
use base.Fml.{Lft, Share, ftrue, flft}
use prog.Memory.{Memory, size, align, capped, up}
use prog.Routine.{Routine}
use prog.Wp.{WpFn, Tables}
use types.Logic.{Logic}
use types.Kit.{‵, raw, ◌⊛◌, some, later, given, learn, pick, prop, at_ret, Sq, ◌$◌, ◌∵◌, !, qed, move, keep, use0, use1, use2, split, join, fsplit, fjoin, suffices, await, done}
use types.Part.{agg}
use types.Run.{stop, fld, addr, lit, no_more, and_then, first, branches, skips, exec, returns, returns_within, enter}
use types.ByLocal.{alloc_all, pass_all, free_all, look_at, get, through, sets, lands_as, env}
use contract.BorrowLft.{◌⊑◌, ⊑_trans}
use contract.Monad.{Fun, fact}
use contract.Running.{tables, tables_of}
use sound.WpLaws.{fm_of, WpFn-mono}
use denote.Builtin.{usize, RefOf}
use denote.Exit.{yes}
use denote.Memory.{hidden_shr}
use denote.Opens.{unhide}
use denote.Param.{bounded, param}
use denote.Plain.{uint_vals, uint_Tells}
use denote.RattleType.{owns}
use denote.RawPtr.{block_ptr}
use denote.Ref.{shr_vals}
use denote.Signature.{Slot, plain, types_at}
use denote.Steps.{heard, nothing}
use denote.Triple.Call.{calls_at}
use denote.Triple.Clauses.{Ended, Clauses}
use denote.Triple.Spec.{triple_of}
use denote.Triple.Statement.{Triple}
use denote.Triple.Table.{entered, cited}
use denote.Triple.Walked.{Stays, stay_dropped, walk_of, ends_at, walked, Goes-dropped, walk_Meets}
use Rattle.std.proofs.alloc.Calls.{Al, α, seen, Answer, answer_val, Answer-typed, Answer-Ok, Answer-err, takes_key, Takes, at_takes, Answered, Takes-goes, Takes-gives, answers}
use Rattle.std.proofs.alloc.Shapes.{after}
use Rattle.refusal.proofs.Asks.{Gate, Asks, asked, can_ask, is_answered}
use Rattle.refusal.proofs.Gate.refuses.Symbol as asks_key
use Rattle.refusal.proofs.Gate.refuses.Met as asks_met
use Rattle.refusal.specs.contracts.Refusing as refusing
use Rattle.refusal.specs.contracts.RefusingAllocator.allocate as f
use Rattle.refusal.specs.contracts.RefusingAllocator.allocate.Key as key
use Rattle.refusal.proofs.RefusingAllocator.allocate.Statement.{statement}
use Rattle.refusal.proofs.RefusingAllocator.allocate.Code as code

abbrev number : Slot 2
number = plain (λ _. usize)

module _ (Z : Al) where
  abbrev args : Args
  args = bounded (a_type ∷ []) (Z.row, tt) (dcons Z.d (dcons Z.drops dnil))

  abbrev here : Fn
  here = inst_fn args code.function

  abbrev self : Slot 2
  self = RefOf (0 ∷ []) tt (plain (λ _. refusing.the_row (param 0 Z.row))) (λ _. tt)

  abbrev ended : Ended
  ended = f.ended Z.row Z.g Z.d Z.drops

  abbrev stayed : Stays ended.signature.params ended.kept
  stayed = (stay_dropped self yes, (stay_dropped number yes, (stay_dropped number yes, tt)))

module _ (Z : Al) {M : Type 1} {𝓤 : Ura M} (𝓛 : Logic 𝓤) (at_mem : Memory → SProp 𝓤) (run : Routine
    → Fun 𝓤) (𝓣 : Tables 𝓤 𝓛.H)
    (takes : Triple 𝓤 (𝓣.C (takes_key Z)) (Takes Z 𝓛 at_mem run))
    (asks : Triple 𝓤 (𝓣.C asks_key.name) (Asks 𝓛 at_mem run)) where
  open 𝓛 use {H}

  abbrev clauses : Clauses 𝓤 (ended Z)
  clauses = f.clauses Z.row Z.g Z.d Z.drops 𝓛 at_mem run

  module _ (κ₁ κ₂ : Lft) (q₁ q₂ : Share) (inn : κ₁ ⊑ κ₂) (r : Bor (refusing.the_row Z.row).Denot)
      (n a : ℕ) (τ : Ty) where
    abbrev bound : (walk_of 𝓛 (ended Z) (stayed Z) clauses).Ghost
    bound = (
      (
        (κ₁, (κ₂, tt)),
        (q₁, (q₂, tt)),
        (inn, tt),
        (r, (n, (a, tt))),
        (shr_vals r, (vint w64 n ∷ [], (vint w64 a ∷ [], tt))),
      ),
      τ,
    )

    abbrev vs : List Val
    vs = vptr r.ref_ptr.0 r.ref_ptr.1 ∷ vint w64 n ∷ vint w64 a ∷ []

    abbrev Post : Val → SProp 𝓤
    Post = (walk_of 𝓛 (ended Z) (stayed Z) clauses).post bound

    abbrev handle : Z.row.Denot
    handle = r.now.inner

    abbrev handle_at : ℕ × ℕ
    handle_at = (r.ref_ptr.0, r.ref_ptr.1 + up (align (α Z)) 0)

    abbrev gate_at : ℕ × ℕ
    gate_at = (r.ref_ptr.0, r.ref_ptr.1 + up 8 (up (align (α Z)) 0 + size (α Z)))

    no_block : Sq 𝓛 (‵ (flft κ₁ q₁) ∷ (‵ (flft κ₂ q₂) ⊛ ‵ ftrue) ∷ [])
        (prop (Post (answer_val false 0 0)))
    no_block =
        suffices ! _ (ends_at 𝓛 (ended Z) (stayed Z) clauses bound (answer_val false 0 0)
        (Err (record {})) (tt, (tt, (tt, tt))) (tt, (tt, (tt, tt)))) $
        nothing ! $ use0 𝓛 (‵ (Answer.own_val (Err (record {})) (answer_val false 0 0 ∷ [])))
        (Answer-err 𝓛) $
        nothing ! $ nothing ! $ fjoin ! $ nothing ! $ fjoin ! $ nothing ! $ fjoin ! $ join ! $ move
        ! (2 ∷ 3 ∷ []) $ join ! $ join ! $ done !

    walk : n < 2 ^ 64 → a < 2 ^ 64 → ent 𝓤 ((walk_of 𝓛 (ended Z) (stayed Z) clauses).pre bound)
        (WpFn 𝓤 H 𝓣.C 𝓣.Λ (here Z) vs Post)
    walk fn fa =
        let y : (Takes Z 𝓛 at_mem run).Ghost =
        at_takes Z 𝓛 at_mem run κ₁ q₁ handle_at handle n a τ in
        let Sized : Type 0 = (capped (size τ) ≡ n) × (capped (align τ) ≡ a) in
        qed 𝓛 (((‵ (flft κ₁ q₁) ⊛ ‵ (flft κ₂ q₂) ⊛ ‵ ftrue) ⊛ ‵
        (owns (types_at (ended Z).signature.params bound.0.0) bound.0.3 bound.0.4))
        ∷ (raw (fact 𝓤 (κ₂ ⊑ Z.row.lives)) ⊛ raw (fact 𝓤 Sized)) ∷ []) ∵
        move ! (1 ∷ []) $ split ! $ heard ! (κ₂ ⊑ Z.row.lives) (λ le. heard ! Sized (λ sized.
        split ! $ split ! $ move ! (2 ∷ []) $ fsplit ! $ fsplit ! $ move ! (1 ∷ []) $ unhide ! $
        fsplit ! $ fsplit ! $
        use1 𝓛 (‵ (seen Z κ₁ handle_at handle)) (id⊢ 𝓤 _) $ move ! (1 ∷ []) $ fsplit ! $ use1 𝓛
        (‵ (hidden_shr Gate κ₁ r.now.gate gate_at.0 gate_at.1)) (id⊢ 𝓤 _) $
        keep ! (0 ∷ 6 ∷ 2 ∷ 7 ∷ []) $
        enter ! 𝓣.C 𝓣.Λ (here Z) vs _ $ alloc_all !
        (λ l. pass_all ! refl (
          (tt, tt),
          (
            (tt, record { fits = fn }),
            ((tt, record { fits = fa }), tt),
          ),
        ) $
        -- [the `&` to the gate; its lifetime's token; the `&` to the inner handle; the other token]
        sets ! (addr ! (through ! refl (fld ! refl (stop !)))) refl (tt, tt) $
        use2 𝓛 (raw ((Asks 𝓛 at_mem run).pre (asked 𝓛 at_mem run κ₁ q₁ gate_at r.now.gate)))
        (can_ask 𝓛 at_mem run κ₁ q₁ gate_at r.now.gate) $
        calls_at ! (fm_of 𝓤 H 𝓛.laws 𝓣) (Asks 𝓛 at_mem run) asks
        (asked 𝓛 at_mem run κ₁ q₁ gate_at r.now.gate) (and_then ! (get ! refl) (no_more !))
        (λ u.
        use1 𝓛 (later (some (λ (t : Bool). given (u ≡ vbool t) (‵ (flft κ₁ q₁)))))
        (is_answered 𝓛 at_mem run κ₁ q₁ gate_at r.now.gate u) $ await ! tt $ pick !
        (λ t. learn ! (λ is.
        lands_as ! is refl (tt, tt) $ first ! $ branches ! (get ! refl)
        (λ refused.
        sets ! (agg ! (no_more !)) refl (tt, tt) $ sets !
        (agg ! (and_then ! (lit ! tt) (and_then ! (get ! refl) (no_more !)))) refl
        (Answer-typed false 0 0) $
        returns_within ! Post refl (look_at ! 0 refl) $ free_all ! refl $ keep ! (0 ∷ 2 ∷ []) $
        no_block)
        (λ passed. skips ! $ exec ! 𝓣.C 𝓣.Λ (env (here Z).locals l) (after 3 (here Z).body)
        (at_ret _ Post) $ move ! (1 ∷ []) $
        sets ! (addr ! (through ! refl (fld ! refl (stop !)))) refl (tt, tt) $ move ! (0 ∷ 1 ∷ []) $
        use2 𝓛 (raw ((Takes Z 𝓛 at_mem run).pre y))
        (Takes-goes Z 𝓛 at_mem run κ₁ q₁ handle_at handle (⊑_trans κ₁ κ₂ Z.row.lives inn le) n a
        τ sized.0 sized.1 fn fa) $
        calls_at ! (fm_of 𝓤 H 𝓛.laws 𝓣) (Takes Z 𝓛 at_mem run) takes y
        (and_then ! (get ! refl) (and_then ! (get ! refl)
        (and_then ! (get ! refl) (no_more !)))) (λ v.
        use1 𝓛 (later (raw (Answered Z 𝓛 at_mem run handle τ v) ⊛ ‵ (flft κ₁ q₁)))
        (Takes-gives Z 𝓛 at_mem run κ₁ q₁ handle_at handle n a τ v) $ await ! tt $ split ! $
        answers Z ! at_mem run handle τ v
        (λ b o e. fjoin ! $ lands_as ! e refl (Answer-typed true b o) $ returns ! (look_at ! 0 refl)
        $ free_all ! refl $
        suffices ! _ (ends_at 𝓛 (ended Z) (stayed Z) clauses bound (answer_val true b o)
        (Ok (block_ptr b o)) (tt, (tt, (tt, tt))) (tt, (tt, (tt, tt)))) $
        use0 𝓛 (‵ (Answer.own_val (Ok (block_ptr b o)) (answer_val true b o ∷ [])))
        (Answer-Ok 𝓛 b o) $ nothing ! $ nothing ! $ fjoin ! $ nothing ! $ fjoin ! $ nothing ! $
        fjoin ! $ join ! $
        move ! (2 ∷ 3 ∷ []) $ join ! $ join ! $ done !)
        (λ e. lands_as ! e refl (Answer-typed false 0 0) $ returns ! (look_at ! 0 refl) $ free_all !
        refl $ no_block)))))))))

pub allocate_spec : {M : Type 1} → statement M
unfolding tables_of
allocate_spec 𝓤 𝓛 𝓜 𝓡 wired row laws g d drops met _ =
    let Z : Al = record { row = row; laws = laws; g = g; d = d; drops = drops } in
    let 𝓣 : Tables 𝓤 𝓛.H = tables_of 𝓤 𝓛.H 𝓜 (tables 𝓤 𝓛.H 𝓜 𝓡 𝓡.env) in
    let wp = WpFn 𝓤 𝓛.H 𝓣.C 𝓣.Λ (here Z) in
    let asks = cited 𝓤 𝓛.H _ 𝓜 𝓡 𝓡.env asks_key.name (𝓡.env asks_key.name) refl
    (asks_met.met 𝓤 𝓛 𝓜 𝓡 (code.calls-refusal::Gate::refuses 𝓡.env wired)) in
    let c = f.clauses row g d drops 𝓛 𝓜.mem 𝓡.returns in
    let goes = Goes-dropped 𝓛 2 number yes (λ κs x f. refl) in
    entered 𝓤 𝓛.H (triple_of 𝓛 (f.signature row) (f.spec row g d drops 𝓛 𝓜.mem 𝓡.returns)) 𝓣.C 𝓣.Λ
    (key.name (args Z)) (here Z) (code.unfolded 𝓤 𝓛.H 𝓜 𝓡 wired (row, tt) d drops)
    (walk_Meets 𝓛 (ended Z) (stayed Z) (
      Goes-dropped 𝓛 2 (self Z) yes (λ κs x f. refl),
      (goes, (goes, tt)),
    ) c wp (WpFn-mono 𝓤 𝓛.H 𝓛.laws 𝓣 (here Z))
    (walked 𝓛 (ended Z) (stayed Z) c wp (λ κs. (shr_vals, (uint_vals w64, (uint_vals w64, tt))))
    (λ κs. ((λ r vs s. s.0), (uint_Tells w64, (uint_Tells w64, tt))))
    (λ κs qs bounds a τ are. walk Z 𝓛 𝓜.mem 𝓡.returns 𝓣 (met.allocate drops) asks κs.0 κs.1.0 qs.0
    qs.1.0 bounds.0 a.0 a.1.0 a.1.1.0 τ are.1.0.1 are.1.1.0.1)))
