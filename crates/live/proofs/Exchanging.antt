-- What calls come to for the link of one id.
use Rattle.std.proofs.Common.{◌≡◌, ◌≢◌, ◌==◌, ℕ, true, false, List, [], ◌∷◌, ◌++◌, map, refl, sym, ap, ◌∙◌, append_assoc, append-nil, Result, Ok, Err, if◌then◌else◌, inl, inr, subst, length, ◌-◌}
use Rattle.std.proofs.lemmas.Bool.Decides.{eqb_tells}
use Rattle.std.specs.List.{AllByRecursion, flat_map}
use Rattle.std.specs.IoError.{error_kind}
use Rattle.std.specs.declared.io.Error.{Error}
use Rattle.acts.specs.declared.id.Id.{Id}
use Rattle.acts.specs.Deed.{Reply}
use Rattle.acts.specs.Deed as said
use Rattle.live.specs.Calls.{Call, Got, Read, Write, Poll, Refused, Made, bytes_of, heard, heard_by, sent, sent_by, told}
use Rattle.live.specs.Early.{Exchanged, Exchanges, Idles, IfAnswered, IsIdle, UnlessMemory}
use Rattle.live.specs.Outputs.{went_out}
use Rattle.live.proofs.Texts.{sent_is}
use Rattle.live.proofs.Chains.{gathered_then, made_then}

-- a number is itself
pub is_same : (n : ℕ) → (n == n) ≡ true
is_same n = elim (eqb_tells n n) [ inl known ↦ known.0 | inr differs ↦ absurd (differs.1 refl) ]

-- another number is not it
pub is_other : (n other : ℕ) → other ≢ n → (n == other) ≡ false
is_other n other differs =
    elim (eqb_tells n other) [ inl same ↦ absurd (differs (sym same.1)) | inr known ↦ known.0 ]

-- what is read from the link of an id is heard from it
heard_reads : (id : Id) (gots : List Got) → heard id (map (Read id) gots) ≡ flat_map bytes_of gots
heard_reads id [] = refl
heard_reads id (got ∷ gots) =
    ap (λ same. (if same then bytes_of got else []) ++ heard id (map (Read id) gots)) (is_same id.0)
    ∙ ap (λ more. bytes_of got ++ more) (heard_reads id gots)

-- and from no other
heard_not : (id other : Id) (gots : List Got) → other.0 ≢ id.0 → heard other (map (Read id) gots) ≡ []
heard_not id other [] differs = refl
heard_not id other (got ∷ gots) differs =
    ap (λ same. (if same then bytes_of got else []) ++ heard other (map (Read id) gots))
    (is_other id.0 other.0 differs)
    ∙ heard_not id other gots differs

-- reads send nothing
sent_reads : (id other : Id) (gots : List Got) → sent other (map (Read id) gots) ≡ []
sent_reads id other [] = refl
sent_reads id other (got ∷ gots) = sent_reads id other gots

-- reads hear what they give
pub reads_exchange : (id : Id) (kept : List ℕ) (gots : List Got) →
    Exchanges id kept (map (Read id) gots) [] [] (kept ++ flat_map bytes_of gots)
reads_exchange id kept gots = record {
  own = ap (λ more. kept ++ more) (heard_reads id gots);
  out = sent_reads id id gots;
  elsewhere = λ other differs. (heard_not id other gots differs, sent_reads id other gots);
}

-- a write sends what it takes
pub write_exchange : (id : Id) (kept text : List ℕ) →
    Exchanges id kept (Write id text ∷ []) text [] kept
write_exchange id kept text = record {
  own = append-nil kept;
  out = ap (λ same. (if same then text else []) ++ []) (is_same id.0) ∙ append-nil text;
  elsewhere = λ other differs.
      (refl, ap (λ same. (if same then text else []) ++ []) (is_other id.0 other.0 differs));
}

-- idle calls hear nothing
pub idle_heard : (id : Id) (calls : List Call) → AllByRecursion IsIdle calls → heard id calls ≡ []
idle_heard id [] idle = refl
idle_heard id (call ∷ calls) idle =
    ap (λ more. more ++ heard id calls) (idle.0 id).0 ∙ idle_heard id calls idle.1

-- and send nothing
pub idle_sent : (id : Id) (calls : List Call) → AllByRecursion IsIdle calls → sent id calls ≡ []
idle_sent id [] idle = refl
idle_sent id (call ∷ calls) idle =
    ap (λ more. more ++ sent id calls) (idle.0 id).1 ∙ idle_sent id calls idle.1

-- idle calls leave what is kept
pub idle_exchange : (id : Id) (kept : List ℕ) (calls : List Call) → AllByRecursion IsIdle calls →
    Exchanges id kept calls [] [] kept
idle_exchange id kept calls idle = record {
  own = ap (λ more. kept ++ more) (idle_heard id calls idle) ∙ append-nil kept;
  out = idle_sent id calls idle;
  elsewhere = λ other differs. (idle_heard other calls idle, idle_sent other calls idle);
}

-- two exchanges, one after the other
pub exchange_then : (id : Id) (kept mid left : List ℕ) (first more : List Call)
    (front text handed : List ℕ) → Exchanges id kept first front [] mid →
    Exchanges id mid more text handed left →
    Exchanges id kept (first ++ more) (front ++ text) handed left
exchange_then id kept mid left first more front text handed before after = record {
  own = ap (λ bytes. kept ++ bytes) (gathered_then (heard_by id) first more)
      ∙ sym (append_assoc kept (heard id first) (heard id more))
      ∙ ap (λ bytes. bytes ++ heard id more) before.own ∙ after.own;
  out = gathered_then (sent_by id) first more
      ∙ ap (λ bytes. bytes ++ sent id more) before.out ∙ ap (λ bytes. front ++ bytes) after.out;
  elsewhere = λ other differs.
      let (heard_first, sent_first) = before.elsewhere other differs in
      let (heard_more, sent_more) = after.elsewhere other differs in (
        gathered_then (heard_by other) first more
            ∙ ap (λ bytes. bytes ++ heard other more) heard_first ∙ heard_more,
        gathered_then (sent_by other) first more
            ∙ ap (λ bytes. bytes ++ sent other more) sent_first ∙ sent_more,
      );
}

-- a call of the poll is idle, also where it was refused
pub poll_idles : {S A : Type 0} (step : S → Call → S → Type 0) (a b : S) (id : Id)
    (result : Result A Error) → step a (told result (λ _. Poll id)) b → Idles step a b
poll_idles step a b id (Ok answer) made =
    (Poll id ∷ [], (b, made, refl), (λ other. (refl, refl), tt))
poll_idles step a b id (Err error) made =
    (Refused (error_kind error) ∷ [], (b, made, refl), (λ other. (refl, refl), tt))

-- no call
pub idles_none : {S : Type 0} (step : S → Call → S → Type 0) (a : S) → Idles step a a
idles_none step a = ([], refl, tt)

-- what holds of each of two lists holds of each of both
pub all_then : {A : Type 0} (P : A → Type 0) (xs ys : List A) → AllByRecursion P xs →
    AllByRecursion P ys → AllByRecursion P (xs ++ ys)
all_then P [] ys first more = more
all_then P (x ∷ xs) ys first more = (first.0, all_then P xs ys first.1 more)

-- idle calls, one after the other
pub idles_then : {S : Type 0} (step : S → Call → S → Type 0) (a b c : S) →
    Idles step a b → Idles step b c → Idles step a c
idles_then step a b c (first, led, idle) (more, on, still) =
    (first ++ more, made_then step a b c first more led on, all_then IsIdle first more idle still)

-- exchanges that follow one another
pub exchanged_then : {S : Type 0} (step : S → Call → S → Type 0) (id : Id) (a b c : S)
    (kept mid left front text handed : List ℕ) → Exchanged step id a kept front [] mid b →
    Exchanged step id b mid text handed left c →
    Exchanged step id a kept (front ++ text) handed left c
exchanged_then step id a b c kept mid left front text handed (first, led, before) (more, on, after) = (
  first ++ more,
  made_then step a b c first more led on,
  exchange_then id kept mid left first more front text handed before after,
)

-- the same where the link is found to be that of the same id
pub exchanged_on : {S : Type 0} (step : S → Call → S → Type 0) (id from : Id) (a b c : S)
    (kept mid left front text handed : List ℕ) → Exchanged step id a kept front [] mid b →
    from ≡ id → Exchanged step from b mid text handed left c →
    Exchanged step id a kept (front ++ text) handed left c
exchanged_on step id from a b c kept mid left front text handed before same after =
    exchanged_then step id a b c kept mid left front text handed before
    (subst (λ link. Exchanged step link b mid text handed left c) same after)

-- no exchange
pub exchanged_none : {S : Type 0} (step : S → Call → S → Type 0) (id : Id) (a : S)
    (kept : List ℕ) → Exchanged step id a kept [] [] kept a
exchanged_none step id a kept = ([], refl, idle_exchange id kept [] tt)

-- idle calls exchange nothing
pub exchanged_idle : {S : Type 0} (step : S → Call → S → Type 0) (id : Id) (a b : S)
    (kept : List ℕ) → Idles step a b → Exchanged step id a kept [] [] kept b
exchanged_idle step id a b kept (calls, led, idle) = (calls, led, idle_exchange id kept calls idle)

-- a write
pub exchanged_write : {S : Type 0} (step : S → Call → S → Type 0) (id : Id) (a b : S)
    (kept text : List ℕ) → step a (Write id text) b → Exchanged step id a kept text [] kept b
exchanged_write step id a b kept text made =
    (Write id text ∷ [], (b, made, refl), write_exchange id kept text)

-- reads whose bytes are kept
pub exchanged_reads : {S : Type 0} (step : S → Call → S → Type 0) (id : Id) (a b : S)
    (kept left : List ℕ) (gots : List Got) → Made step a (map (Read id) gots) b →
    left ≡ kept ++ flat_map bytes_of gots → Exchanged step id a kept [] [] left b
exchanged_reads step id a b kept left gots made is = (
  map (Read id) gots,
  made,
  subst (λ more. Exchanges id kept (map (Read id) gots) [] [] more) (sym is)
      (reads_exchange id kept gots),
)

-- what holds, holds where memory was not refused
pub unless : {A : Type 0} (result : Result A Error) (P : Type 0) → P → UnlessMemory result P
unless (Ok answer) P holds = holds
unless (Err error) P holds = λ known. holds

-- a write that took nothing
pub exchanged_no_write : {S : Type 0} (step : S → Call → S → Type 0) (id : Id) (a b : S)
    (kept text : List ℕ) → text ≡ [] → step a (Write id text) b →
    Exchanged step id a kept [] [] kept b
exchanged_no_write step id a b kept text none made =
    subst (λ sent. Exchanged step id a kept sent [] kept b) none
    (exchanged_write step id a b kept text made)

-- a text of which this front was sent has failed after it
pub exchanged_failed : {S : Type 0} (step : S → Call → S → Type 0) (id : Id) (a b : S)
    (kept left text front rest : List ℕ) (reply : Reply) →
    reply ≡ said.Failed (length text - length rest) → text ≡ front ++ rest →
    Exchanged step id a kept front [] left b →
    IfAnswered reply (Exchanged step id a kept (went_out text reply) [] left b)
exchanged_failed step id a b kept left text front rest reply is whole exchanged =
    subst (λ r. IfAnswered r (Exchanged step id a kept (went_out text r) [] left b)) (sym is)
    (subst (λ sent. Exchanged step id a kept sent [] left b)
    (sym (sent_is text front rest whole)) exchanged)

-- the same where no more is sent
pub exchanged_nothing : {S : Type 0} (step : S → Call → S → Type 0) (id from : Id) (a b c : S)
    (kept mid left front handed : List ℕ) → Exchanged step id a kept front [] mid b →
    from ≡ id → Exchanged step from b mid [] handed left c →
    Exchanged step id a kept front handed left c
exchanged_nothing step id from a b c kept mid left front handed before same after =
    subst (λ text. Exchanged step id a kept text handed left c) (append-nil front)
    (exchanged_on step id from a b c kept mid left front [] handed before same after)
