-- What is kept in a table of links, of which one was read from or written to.
use Rattle.std.proofs.Common.{◌≡◌, ◌≢◌, ◌==◌, ◌||◌, ℕ, zero, suc, ◌+◌, ◌<◌, ◌≤◌, Bool, true, false, not, cond, nat_lt, List, [], ◌∷◌, ◌++◌, Some, None, map, length, refl, sym, ap, subst, ◌∙◌, append-nil, slice_index_or, slice_set, if◌then◌else◌, inl, inr, arith}
use Rattle.std.proofs.lemmas.Bool.{eq-eqb, false≢true, lt-ltb, ne_eqb}
use Rattle.std.proofs.lemmas.Bool.Decides.{eqb_tells, nat_tests}
use Rattle.std.proofs.lemmas.List.{get_or-map, length-map}
use Rattle.std.proofs.lemmas.List.Quantifiers.{position-Some}
use Rattle.std.proofs.lemmas.List.Sums.{position_or_len_is}
use Rattle.std.specs.List.{list_any, position, position_or_len, prefix_len}
use Rattle.acts.specs.declared.id.Id.{Id}
use Rattle.acts.specs.Deed.{Reply}
use Rattle.acts.specs.Deed as said
use Rattle.live.specs.Calls.{Call, heard, sent}
use Rattle.live.specs.Early.{Exchanged, Exchanges, IfAnswered}
use Rattle.live.specs.Kept.{ArePast, Traded, Trades, ids_of, is_open, kept_of, only}
use Rattle.live.specs.Outputs.{went_out}
use Rattle.live.specs.declared.peers.Peer.{Peer}
use Rattle.live.proofs.Exchanging.{is_other, is_same}

-- ids of one number are one
pub same_id : (a b : Id) → a.0 ≡ b.0 → a ≡ b
same_id a b is = ap (λ n. record { 0 = n }) is

-- numbers that are told to be the same are
pub told_same : (a b : ℕ) → (a == b) ≡ true → a ≡ b
told_same a b told =
    elim (eqb_tells a b) [
      | inl known ↦ known.1
      | inr known ↦ absurd (false≢true (sym known.0 ∙ told))
    ]

told_other : (a b : ℕ) → (a == b) ≡ false → b ≢ a
told_other a b told is =
    elim (eqb_tells a b) [
      | inl known ↦ absurd (false≢true (sym told ∙ known.0))
      | inr known ↦ known.1 (sym is)
    ]

-- the first of a list whose link is that of an id stands at this place
abbrev pub IsAt : {L : Type 0} → (L → Id) → Id → List (Peer L) → ℕ → Peer L → Type 0
IsAt owner id [] place peer = ⊥
IsAt owner id (x ∷ xs) zero peer = (peer ≡ x) × (owner x.link ≡ id)
IsAt owner id (x ∷ xs) (suc n) peer = (id.0 ≢ (owner x.link).0) × IsAt owner id xs n peer

-- the first link of an id stands at the place before which there is none
at_first : {L : Type 0} (owner : L → Id) (id : Id) (list : List (Peer L)) (place : ℕ)
    (peer : Peer L) → place < length list →
    ((owner (slice_index_or list place peer).link).0 == id.0) ≡ true →
    ((k : ℕ) → k < place → ((owner (slice_index_or list k peer).link).0 == id.0) ≡ false) →
    peer ≡ slice_index_or list place peer → IsAt owner id list place peer
at_first owner id [] place peer within here before value = absurd (omega arith)
at_first owner id (x ∷ xs) zero peer within here before value =
    (value, same_id (owner x.link) id (told_same _ _ here))
at_first owner id (x ∷ xs) (suc n) peer within here before value = (
  told_other _ _ (before 0 (omega arith)),
  at_first owner id xs n peer (omega arith) here (λ k less. before (suc k) (omega arith)) value,
)

-- the place at which the link of an id is found
pub found_at : {L : Type 0} (owner : L → Id) (id : Id) (list : List (Peer L)) (place : ℕ)
    (peer : Peer L) → position (λ y. (owner y.link).0 == id.0) list ≡ Some place →
    peer ≡ slice_index_or list place peer → IsAt owner id list place peer
found_at owner id list place peer found value =
    let (within, here, before) = position-Some _ list place peer found in
    at_first owner id list place peer within here before value

-- before a place that was passed no link is the id's
not_before : {L : Type 0} (owner : L → Id) (id : Id) (list : List (Peer L)) (place k : ℕ)
    (peer : Peer L) → ArePast (ids_of owner list) place id.0 → k < place → k < length list →
    ((owner (slice_index_or list k peer).link).0 == id.0) ≡ false
not_before {L = L} owner id list place k peer past less within =
    let whose = λ (it : Peer L). owner it.link in
    let one = get_or-map whose list k peer (whose peer) within in
    let below = past k (whose peer) less (omega (arith, length-map list whose)) in
    ne_eqb _ _ (λ same. absurd (omega (arith, below, ap (λ it. it.0) one, same)))

-- so the first link of an id stands there, where the link there is the id's
pub past_first : {L : Type 0} (owner : L → Id) (id : Id) (list : List (Peer L)) (place : ℕ)
    (peer : Peer L) → ArePast (ids_of owner list) place id.0 → place < length list →
    owner (slice_index_or list place peer).link ≡ id →
    Some place ≡ position (λ y. (owner y.link).0 == id.0) list
past_first {L = L} owner id list place peer past within whose =
    let test = λ (y : Peer L). (owner y.link).0 == id.0 in
    let first : position_or_len test list ≡ place =
    position_or_len_is test list place peer (omega arith)
    (λ k less. not_before owner id list place k peer past less (omega arith))
    (λ inside. eq-eqb _ _ (ap (λ it. it.0) whose)) in
    sym (ap (λ n. cond (nat_lt n (length list)) (Some n) None) first
    ∙ ap (λ b. cond b (Some place) None) (lt-ltb place (length list) within))

-- one more link is passed
pub past_more : {L : Type 0} (owner : L → Id) (n : ℕ) (list : List (Peer L)) (place : ℕ)
    (peer : Peer L) → ArePast (ids_of owner list) place n →
    (owner (slice_index_or list place peer).link).0 < n → ArePast (ids_of owner list) (place + 1) n
past_more {L = L} owner n list place peer past less k id below within =
    elim (eqb_tells k place) [
      | inl known ↦
          let whose = λ (it : Peer L). owner it.link in
          let here = get_or-map whose list k peer id (omega (arith, length-map list whose)) in
          let there = ap (λ m. slice_index_or list m peer) known.1 in
          omega (arith, less, ap (λ it. it.0) here, ap (λ it. (whose it).0) there)
      | inr known ↦
          let other = known.1 in
          past k id (omega (arith, below, other)) within
    ]

-- what is kept for the id is what is kept there
pub kept_at : {L : Type 0} (owner : L → Id) (id : Id) (list : List (Peer L)) (place : ℕ)
    (peer : Peer L) → IsAt owner id list place peer → kept_of owner list id ≡ peer.early.items
kept_at owner id [] place peer at = absurd at
kept_at owner id (x ∷ xs) zero peer (same, whose) =
    ap (λ here. if here then x.early.items else kept_of owner xs id)
    (ap (λ link. link.0 == id.0) whose ∙ is_same id.0)
    ∙ ap (λ it. it.early.items) (sym same)
kept_at owner id (x ∷ xs) (suc n) peer (differs, at) =
    ap (λ here. if here then x.early.items else kept_of owner xs id) (is_other _ _ differs)
    ∙ kept_at owner id xs n peer at

-- another peer of the same id may stand there
pub at_set : {L : Type 0} (owner : L → Id) (id : Id) (list : List (Peer L)) (place : ℕ)
    (peer new : Peer L) → owner new.link ≡ owner peer.link → IsAt owner id list place peer →
    IsAt owner id (slice_set list place new) place new
at_set owner id [] place peer new whose at = absurd at
at_set owner id (x ∷ xs) zero peer new whose (same, is) =
    (refl, whose ∙ ap (λ it. owner it.link) same ∙ is)
at_set owner id (x ∷ xs) (suc n) peer new whose (differs, at) =
    (differs, at_set owner id xs n peer new whose at)

-- and what is kept for any other id stays
kept_set : {L : Type 0} (owner : L → Id) (id other : Id) (list : List (Peer L)) (place : ℕ)
    (peer new : Peer L) → other.0 ≢ id.0 → owner new.link ≡ owner peer.link →
    IsAt owner id list place peer →
    kept_of owner (slice_set list place new) other ≡ kept_of owner list other
kept_set owner id other [] place peer new differs whose at = absurd at
kept_set owner id other (x ∷ xs) zero peer new differs whose (same, is) =
    let old_is = ap (λ link. link.0 == other.0) is ∙ is_other id.0 other.0 differs in
    let new_is = ap (λ link. link.0 == other.0) (whose ∙ ap (λ it. owner it.link) same) ∙ old_is in
    ap (λ here. if here then new.early.items else kept_of owner xs other) new_is
    ∙ sym (ap (λ here. if here then x.early.items else kept_of owner xs other) old_is)
kept_set owner id other (x ∷ xs) (suc n) peer new differs whose (here, at) =
    ap (λ rest. if (owner x.link).0 == other.0 then x.early.items else rest)
    (kept_set owner id other xs n peer new differs whose at)

-- and so do the ids of the links
pub ids_set : {L : Type 0} (owner : L → Id) (id : Id) (list : List (Peer L)) (place : ℕ)
    (peer new : Peer L) → owner new.link ≡ owner peer.link → IsAt owner id list place peer →
    ids_of owner (slice_set list place new) ≡ ids_of owner list
ids_set owner id [] place peer new whose at = absurd at
ids_set owner id (x ∷ xs) zero peer new whose (same, is) =
    ap (λ one. one ∷ ids_of owner xs) (whose ∙ ap (λ it. owner it.link) same)
ids_set owner id (x ∷ xs) (suc n) peer new whose (differs, at) =
    ap (λ more. owner x.link ∷ more) (ids_set owner id xs n peer new whose at)

-- the first of a list does not pass, and none of the others
none_step : (here : Bool) (n many : ℕ) (rest : Bool) → suc many ≤ cond (not here) (1 + n) 0 →
    (many ≤ n → rest ≡ false) → (here || rest) ≡ false
none_step true n many rest past others = absurd (omega arith)
none_step false n many rest past others = others (omega arith)

-- where none is found, none passes
none_passes : {A : Type 0} (p : A → Bool) (xs : List A) →
    length xs ≤ prefix_len (λ x. not (p x)) xs → list_any p xs ≡ false
none_passes p [] past = refl
none_passes p (x ∷ xs) past =
    none_step (p x) (prefix_len (λ y. not (p y)) xs) (length xs) (list_any p xs) past
    (none_passes p xs)

none_past : (n many : ℕ) → cond (nat_lt n many) (Some n) None ≡ None → many ≤ n
none_past n many none = grind (arith, nat_tests)

any_mapped : {A B : Type 0} (p : B → Bool) (f : A → B) (xs : List A) →
    list_any p (map f xs) ≡ list_any (λ x. p (f x)) xs
any_mapped p f [] = refl
any_mapped p f (x ∷ xs) = ap (λ rest. p (f x) || rest) (any_mapped p f xs)

-- where no link of an id is found, none is open
pub closed : {L : Type 0} (owner : L → Id) (id : Id) (list : List (Peer L)) →
    position (λ y. (owner y.link).0 == id.0) list ≡ None → is_open (ids_of owner list) id ≡ false
closed owner id list none =
    any_mapped (λ one. one.0 == id.0) (λ peer. owner peer.link) list
    ∙ none_passes (λ peer. (owner peer.link).0 == id.0) list
    (none_past (prefix_len (λ y. not ((owner y.link).0 == id.0)) list) (length list) none)

-- the link found there is the id's
pub whose_at : {L : Type 0} (owner : L → Id) (id : Id) (list : List (Peer L)) (place : ℕ)
    (peer : Peer L) → IsAt owner id list place peer → owner peer.link ≡ id
whose_at owner id [] place peer at = absurd at
whose_at owner id (x ∷ xs) zero peer (same, is) = ap (λ it. owner it.link) same ∙ is
whose_at owner id (x ∷ xs) (suc n) peer (differs, at) = whose_at owner id xs n peer at

-- what calls come to for one link is what they come to in the table
pub trades_at : {L : Type 0} (owner : L → Id) (id : Id) (list : List (Peer L)) (place : ℕ)
    (peer new : Peer L) (calls : List Call) (text handed : List ℕ) →
    IsAt owner id list place peer → owner new.link ≡ owner peer.link →
    Exchanges (owner peer.link) peer.early.items calls text handed new.early.items →
    Trades (kept_of owner list) calls (only id text) (only id handed)
    (kept_of owner (slice_set list place new))
trades_at owner id list place peer new calls text handed at whose it other =
    let is = whose_at owner id list place peer at in
    let now = at_set owner id list place peer new whose at in
    let left = kept_of owner (slice_set list place new) in
    elim (eqb_tells id.0 other.0) [
      | inl known ↦
          let same = same_id id other known.1 in
          let P : Id → Type 0 = λ o.
          (kept_of owner list o ++ heard o calls ≡ only id handed o ++ left o)
          × (sent o calls ≡ only id text o) in
          let here = is_same id.0 in
          subst P same (
            ap (λ kept. kept ++ heard id calls) (kept_at owner id list place peer at)
                ∙ subst (λ o. peer.early.items ++ heard o calls ≡ handed ++ new.early.items) is it.own
                ∙ ap (λ kept. handed ++ kept) (sym (kept_at owner id _ place new now))
                ∙ ap (λ b. (if b then handed else []) ++ left id) (sym here),
            subst (λ o. sent o calls ≡ text) is it.out ∙ ap (λ b. if b then text else []) (sym here),
          )
      | inr known ↦
          let differs : other.0 ≢ id.0 = λ e. known.1 (sym e) in
          let none = it.elsewhere other (subst (λ o. other.0 ≢ o.0) (sym is) differs) in (
            ap (λ more. kept_of owner list other ++ more) none.0 ∙ append-nil _
                ∙ sym (kept_set owner id other list place peer new differs whose at)
                ∙ ap (λ b. (if b then handed else []) ++ left other) (sym known.0),
            none.1 ∙ ap (λ b. if b then text else []) (sym known.0),
          )
    ]

pub none_either : (none : List ℕ) (here : Bool) → none ≡ (if here then none else none)
none_either none true = refl
none_either none false = refl

-- where nothing is called, nothing is traded
pub traded_none : {S : Type 0} (step : S → Call → S → Type 0) (id : Id) (a : S)
    (kept : Id → List ℕ) → Traded step a kept (only id []) (λ other. []) kept a
traded_none step id a kept =
    ([], refl, λ other. (append-nil (kept other), none_either [] (id.0 == other.0)))

-- what follows from what holds of an answer holds of it
if_answered : (reply : Reply) (P Q : Type 0) → (P → Q) → IfAnswered reply P → IfAnswered reply Q
if_answered said.Done P Q weaker holds = weaker holds
if_answered (said.Failed sent) P Q weaker holds = weaker holds
if_answered (said.Started pid) P Q weaker holds = weaker holds
if_answered said.Refused P Q weaker holds = weaker holds
if_answered (said.Exited status) P Q weaker holds = weaker holds
if_answered (said.Arrive id bytes) P Q weaker holds = weaker holds
if_answered (said.Ended id) P Q weaker holds = weaker holds
if_answered said.TimedOut P Q weaker holds = weaker holds
if_answered said.NoMore P Q weaker holds = tt

-- the same of a text that is sent, unless there are no more answers
pub traded_answer : {S L : Type 0} (step : S → Call → S → Type 0) (owner : L → Id) (id : Id)
    (a b : S) (list : List (Peer L)) (place : ℕ) (peer new : Peer L) (text : List ℕ)
    (reply : Reply) → IsAt owner id list place peer → owner new.link ≡ owner peer.link →
    IfAnswered reply (Exchanged step (owner peer.link) a peer.early.items (went_out text reply) []
    new.early.items b) →
    IfAnswered reply (Traded step a (kept_of owner list) (only id (went_out text reply))
    (λ other. []) (kept_of owner (slice_set list place new)) b)
traded_answer step owner id a b list place peer new text reply at whose it =
    if_answered reply _ _ (λ exchanged.
    let (calls, made, it) = exchanged in
    let trades = trades_at owner id list place peer new calls _ [] at whose it in (
      calls,
      made,
      λ other. (
        (trades other).0
            ∙ ap (λ none. none ++ kept_of owner (slice_set list place new) other)
            (sym (none_either [] (id.0 == other.0))),
        (trades other).1,
      ),
    )) it
