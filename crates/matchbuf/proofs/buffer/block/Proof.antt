-- The bytes are lent in one piece as `&mut`, and shared for all the time that the loan has, so that
-- what was lent stays as it was.
use Rattle.std.proofs.Common.{◌≡◌, ℕ, List, [], ◌∷◌, length, refl, ap, ◌∙◌, w8, Bor, MutBor}
use mathlib.Core.Option.{none}
use seplogic.Ra.Ura.{Ura}
use base.Fraction.{full_share}
use base.Logic.{SProp, ent, id⊢}
use base.Fml.{Lft, Share, ftrue, fsep, flft, fres}
use mir.Syntax.{Args, Fn, a_type, dnil, dcons, named, erased}
use mir.Val.{Val}
use mir.MapTy.{inst_fn}
use prog.Memory.{Memory}
use prog.Routine.{Routine}
use prog.Wp.{WpFn, Tables}
use types.Logic.{Logic, sem}
use base.Stored.{coded_list}
use types.Kit.{‵, raw, ◌⊛◌, some, later, ◌$◌, ◌∵◌, !, qed, by, move, drop, use1, use2, split, split3, join, pick, fsplit, fjoin, fpack, feq_i, rewrite, suffices, frame, await, done}
use types.Part.{whole, sub, agg}
use types.Run.{stop, fld, hop, from, addr, no_more, and_then, returns, enter}
use types.ByLocal.{alloc_all, pass_all, free_all, look_at, look_in_at, get, get_in, through, sets, lands_as}
use contract.BorrowLft.{◌⊑◌}
use contract.Monad.{Fun, fact}
use contract.Running.{tables, tables_of}
use sound.WpLaws.{fm_of, WpFn-mono}
use borrow.Rule.Slice.Handed.{sl_Share}
use borrow.Table.Owned as borrowed
use denote.Builtin.{u8}
use denote.Copied.{uint_Copied}
use denote.Exit.{no}
use denote.Follow.{follows, such_by, follows_by, followed}
use denote.FollowSlice.{finally-res}
use denote.Array.{Array}
use denote.Laws.{shows}
use denote.Param.{bounded, param}
use denote.Plain.{uint_row_laws}
use denote.RattleType.{RattleType}
use denote.Ref.{mut_vals, mut_Tells}
use denote.Signature.{Slot, plain, mut_ref_to}
use denote.Slice.{MutSlice, finally, slice_val}
use denote.Steps.{heard, nothing, peeks, only}
use denote.Triple.Call.{calls_at}
use denote.Triple.Clauses.{Ended, Clauses}
use denote.Triple.Spec.{triple_of}
use denote.Triple.Statement.{Contract, Triple}
use denote.Triple.Table.{entered, cited}
use denote.Triple.Walked.{Stays, says, stay_dropped, walk_of, ends_at, walked, Goes-spent_ref, walk_Meets}
use Rattle.std.proofs.alloc.Calls.{Al}
use Rattle.std.specs.Prelude.{⊤}
use Rattle.std.specs.List.{refill}
use Rattle.matchbuf.specs.Unchanged.{RingStays}
use Rattle.circular_buffer.specs.Buffer.{Buffer, buffer}
use Rattle.circular_buffer.specs.contracts.heap.HeapCircularBuffer.{the_row}
use Rattle.matchbuf.specs.contracts.buffer.straighten as lent
use Rattle.matchbuf.proofs.buffer.straighten.Symbol as lent_key
use Rattle.matchbuf.proofs.buffer.straighten.Met as lent_met
use Rattle.matchbuf.specs.contracts.buffer.block as f
use Rattle.matchbuf.specs.contracts.buffer.block.Key as key
use Rattle.matchbuf.proofs.buffer.block.Statement.{statement}
use Rattle.matchbuf.proofs.buffer.block.Code as code

module _ (Z : Al) where
  abbrev args : Args
  args = bounded (a_type ∷ []) (Z.row, tt) (dcons Z.d (dcons Z.drops dnil))

  abbrev here : Fn
  here = inst_fn args code.function

  abbrev Buf : RattleType
  Buf = the_row u8 (param 0 Z.row) Z.g

  abbrev self : Slot 2
  self = mut_ref_to (0 ∷ []) tt (plain (λ _. Buf))

  abbrev ended : Ended
  ended = f.ended Z.row Z.g Z.d Z.drops

  abbrev stayed : Stays ended.signature.params ended.kept
  stayed = (stay_dropped self no, tt)

module _ (Z : Al) {M : Type 1} {𝓤 : Ura M} (𝓛 : Logic 𝓤) (at_mem : Memory → SProp 𝓤) (run : Routine
    → Fun 𝓤) where
  abbrev clauses : Clauses 𝓤 (ended Z)
  clauses = f.clauses Z.row Z.g Z.d Z.drops 𝓛 at_mem run

  abbrev Lent : Contract 𝓤
  Lent = triple_of 𝓛 (lent.signature Z.row Z.g Z.d Z.drops)
      (lent.spec Z.row Z.g Z.d Z.drops 𝓛 at_mem run)

  module _ (𝓣 : Tables 𝓤 𝓛.H) (lends : Triple 𝓤 (𝓣.C (lent_key.name (args Z))) Lent) (κ₁ κ₂ : Lft)
      (q₁ q₂ : Share) (inn : κ₁ ⊑ κ₂) (b : MutBor (Buffer ℕ)) where
    open 𝓛 use {H, A}

    abbrev bound : (walk_of 𝓛 (ended Z) (stayed Z) clauses).Ghost
    bound = (((κ₁, (κ₂, tt)), (q₁, (q₂, tt)), (inn, tt), (b, tt), (mut_vals b, tt)), tt)

    abbrev Post : Val → SProp 𝓤
    Post = (walk_of 𝓛 (ended Z) (stayed Z) clauses).post bound

    abbrev asked : Lent.Ghost
    asked = (((κ₁, (κ₂, tt)), (q₁, (q₂, tt)), (inn, tt), (b, tt), (mut_vals b, tt)), tt)

    abbrev written : List ℕ → Buffer ℕ
    written ws = buffer (refill (length b.now.items) b.now.items ws) b.now.capacity

    abbrev shared : MutBor (List ℕ) → Bor (List ℕ)
    shared r = record { ref_ptr = r.ref_ptr; now = r.now }

    -- the buffer ends as it was
    stays : ent 𝓤 (A.res b.ghost_name ((Buf Z).coded.code b.now))
        (sem 𝓛 (RingStays (param 0 Z.row) Z.g b))
    unfolding such_by follows_by
    stays =
        qed 𝓛 (‵ (fres b.ghost_name ((Buf Z).coded.code b.now)) ∷ []) ∵
        fpack ! (((s : (Buffer ℕ → Buffer ℕ) × Buffer ℕ) × ((w : Buffer ℕ) → ⊤) × (s.1 ≡ b.now)))
        (λ s. follows_by (Buffer ℕ) (Buffer ℕ) (Buf Z).coded.code (Buf Z).coded.code b.ghost_name none s.0.0
        s.0.1) ((λ h. h, b.now), λ w. tt, refl) $ done !

    walk : ent 𝓤 ((walk_of 𝓛 (ended Z) (stayed Z) clauses).pre bound)
        (WpFn 𝓤 H 𝓣.C 𝓣.Λ (here Z) (mut_vals b) Post)
    walk =
        let Refills : Type 0 = (ws : List ℕ) → length ws ≡ length b.now.items →
        refill (length b.now.items) b.now.items ws ≡ ws in
        qed 𝓛 (raw (Lent.pre asked) ∷ []) ∵ enter ! 𝓣.C 𝓣.Λ (here Z) (mut_vals b) _ $ alloc_all !
        (λ l. pass_all ! refl ((tt, tt), tt) $
        sets ! (addr ! (through ! refl (stop !))) refl (tt, tt) $
        calls_at ! (fm_of 𝓤 H 𝓛.laws 𝓣) Lent lends asked (and_then ! (get ! refl) (no_more !)) (λ v.
        use1 𝓛 (later (some (λ (r : MutBor (List ℕ)).
        ((‵ (flft κ₁ q₁) ⊛ ‵ (flft κ₂ q₂) ⊛ ‵ ftrue) ⊛ ‵
        ((MutSlice (named 0) κ₁ u8).own_val r (v ∷ [])))
        ⊛ some (λ (ws : Unit {0} × Unit {0}). ‵ (fsep ftrue ftrue) ⊛
        (‵ (follows (Buf Z) (Array u8 0) b.ghost_name r.ghost_name written) ⊛ raw
        (fact 𝓤 (r.now ≡ b.now.items)) ⊛ raw (fact 𝓤 Refills)))))) (id⊢ 𝓤 _) $
        await ! tt $ pick ! (λ r. split ! $ split ! $ move ! (2 ∷ []) $ pick !
        (λ ws. split ! $ drop ! $ split3 ! $
        move ! (1 ∷ []) $ heard ! (r.now ≡ b.now.items)
        (λ same. move ! (1 ∷ []) $ heard ! Refills (λ refills.
        -- [how the buffer follows the slice; the tokens; the slice]
        move ! (1 ∷ []) $ split ! $ move ! (3 ∷ 0 ∷ []) $
        peeks ! (MutSlice (named 0) κ₁ u8) _ (shows 𝓛 (MutSlice (named 0) κ₁ u8)) r (v ∷ [])
        (λ is. fsplit ! $ fsplit ! $ drop ! $ fjoin ! $
        use2 𝓛 (later (‵ ((borrowed.ShrSlice erased κ₁ u8).own_val (shared r)) ⊛
        (‵ (finally u8 r.ghost_name r.now) ⊛ ‵ (flft κ₁ q₁))))
        (sl_Share 𝓛 u8 r.ref_ptr.0 r.ref_ptr.1 r.ghost_name r.now (uint_row_laws w8) κ₁ q₁
        ((uint_Copied 𝓛 w8).shares full_share κ₁)) $
        await ! tt $ split ! $ move ! (1 ∷ []) $ split ! $
        -- [the slice's last value; its lifetime's token; the shared slice; the other token; how the
        -- buffer follows]
        use1 𝓛 (‵ (fres r.ghost_name ((coded_list u8.coded).code r.now)))
        (finally-res 𝓛 u8 r.ghost_name r.now) $ move ! (4 ∷ 0 ∷ []) $
        use2 𝓛 (‵ (fres b.ghost_name ((Buf Z).coded.code (written r.now))))
        (followed 𝓛 (Buf Z) (Array u8 0) written b.ghost_name r.ghost_name r.now) $
        rewrite ! 0 (λ (h : Buffer ℕ). ‵ (fres b.ghost_name ((Buf Z).coded.code h)))
        (ap (λ (l : List ℕ). record b.now { items = l }) (refills r.now (ap length same)
        ∙ same)) refl $
        lands_as ! (ap only is.0.0) refl (tt, (tt, (record { fits = is.0.1.0 }, tt))) $
        sets ! (addr !
        (from ! (fld ! refl (hop ! (look_in_at ! 2 (sub ! 0 refl (whole !))) (stop !))))) refl
        (tt, tt) $
        sets ! (agg ! (and_then ! (get ! refl)
        (and_then ! (get_in ! (fld ! refl (stop !)) (sub ! 1 refl (whole !))) (no_more !))))
        refl (tt, (tt, (record { fits = is.0.1.0 }, tt))) $
        returns ! (look_at ! 0 refl) $ free_all ! refl $
        -- [the buffer's last value; the token; the shared slice; the other token]
        move ! (2 ∷ []) $ fsplit ! $ feq_i ! (List Val) (slice_val r.ref_ptr (length r.now) ∷ [])
        (slice_val r.ref_ptr (length r.now) ∷ []) refl $ fjoin ! $ fjoin ! $
        suffices ! _ (ends_at 𝓛 (ended Z) (stayed Z) clauses bound
        (slice_val r.ref_ptr (length r.now)) (shared r) (tt, tt) (tt, tt)) $
        nothing ! $ nothing ! $ fjoin ! $ join ! $ move ! (2 ∷ 3 ∷ []) $ join ! $ join ! $ frame ! $
        says ! same $ by ! stays)))))))

pub block_spec : {M : Type 1} → statement M
unfolding tables_of
block_spec 𝓤 𝓛 𝓜 𝓡 wired row laws g d drops met dropped =
    let Z : Al = record { row = row; laws = laws; g = g; d = d; drops = drops } in
    let 𝓣 : Tables 𝓤 𝓛.H = tables_of 𝓤 𝓛.H 𝓜 (tables 𝓤 𝓛.H 𝓜 𝓡 𝓡.env) in
    let wp = WpFn 𝓤 𝓛.H 𝓣.C 𝓣.Λ (here Z) in
    let k = lent_key.name (args Z) in
    let lends = cited 𝓤 𝓛.H _ 𝓜 𝓡 𝓡.env k (𝓡.env k) refl
    (lent_met.met 𝓤 𝓛 𝓜 𝓡 (code.calls-matchbuf::buffer::straighten 𝓡.env wired) row
    laws g d drops met dropped) in
    let c = f.clauses row g d drops 𝓛 𝓜.mem 𝓡.returns in
    entered 𝓤 𝓛.H (triple_of 𝓛 (f.signature row g d drops) (f.spec row g d drops 𝓛 𝓜.mem 𝓡.returns))
    𝓣.C 𝓣.Λ (key.name (args Z)) (here Z) (code.unfolded 𝓤 𝓛.H 𝓜 𝓡 wired (row, tt) d drops)
    (walk_Meets 𝓛 (ended Z) (stayed Z) (Goes-spent_ref 𝓛 2 (0 ∷ []) tt (plain (λ _. Buf Z)), tt) c
    wp (WpFn-mono 𝓤 𝓛.H 𝓛.laws 𝓣 (here Z))
    (walked 𝓛 (ended Z) (stayed Z) c wp (λ κs. (mut_vals, tt))
    (λ κs. (mut_Tells (named 0) κs.0 (Buf Z), tt))
    (λ κs qs bounds a g' are. walk Z 𝓛 𝓜.mem 𝓡.returns 𝓣 lends κs.0 κs.1.0 qs.0 qs.1.0 bounds.0
    a.0)))
