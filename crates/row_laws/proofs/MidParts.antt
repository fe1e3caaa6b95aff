-- What a middle node keeps besides its log and its tables stays in range.
use Rattle.std.proofs.Common.{◌≡◌, ℕ, ◌<◌, true, List, [], ◌∷◌, length, refl, sym, ◌∙◌, subst, Option, Some, None}
use Rattle.std.specs.Prelude.{IfSome}
use Rattle.std.proofs.lemmas.List.{length-set}
use Rattle.aeg_base.specs.declared.names.Tier.{Tier}
use Rattle.aeg_base.specs.declared.names.Tier.TheVariants.{Mid as InMid, Inv, Pay}
use Rattle.log_model.specs.Recover.{onto, newest}
use Rattle.log_model.proofs.Basics.{Every}
use Rattle.log_values.specs.declared.entry.Entry.{Entry}
use Rattle.log_values.specs.declared.fact.Fact.{Fact}
use Rattle.log_values.specs.declared.fact.Fact.TheVariants.{Promised, Accepted, Learned, Held}
use Rattle.log_values.specs.Fields.{IsCallNumber}
use Rattle.log_values.specs.Outcomes.{IsCommit}
use Rattle.log_values.specs.Records.{FitsFact}
use Rattle.log_values.specs.Values.{FitsEntry}
use Rattle.fact_journal.specs.Fitting.{Fit, all_facts}
use Rattle.fact_journal.proofs.Fits.{facts_fit, written}
use Rattle.fact_journal.proofs.Restoring.{newest_facts}
use Rattle.round_model.specs.declared.answer.Answer.{Answer}
use Rattle.round_model.specs.declared.claim.Claim.{Claim}
use Rattle.round_model.specs.Lists.{put_at}
use Rattle.round_model.specs.Numbered.{find}
use Rattle.round_model.specs.Held.{HeldState, answers_of, none_held, untold, holds, takes_as, takes, heard, hears}
use Rattle.round_model.specs.Verdicts.{Vote, claim, Claims, with_claim, claims_or_none, claims_in}
use Rattle.batcher.specs.Waiting.{ArePending}
use Rattle.batcher.proofs.Places.{write}
use Rattle.batcher.proofs.Waits.{put_stands}
use Rattle.tier_model.specs.Moves.{held_in}
use Rattle.tier_model.specs.MidRows.{with_vote}
use Rattle.row_laws.specs.Mids.{ArePendingIn, AreClaimsIn, IsTallyIn, IsAnswerIn, IsHeldIn}
use Rattle.server_shim.proofs.Lists.{set_in, replicate_in, put_in, find_in}
use Rattle.row_laws.proofs.Lists.{put_at_in}

-- PENDING ENTRIES

pub pending_in : (pending : List (Option Entry)) (e : Entry) → ArePendingIn pending → FitsEntry e → ArePendingIn (put_at None pending e.client (Some e))
pending_in pending e k f = record {
  stand = subst ArePending (write None pending pending e.client e.client (Some e) refl k.stand.places refl f.client.1)
      (put_stands pending e.client e k.stand f.client refl);
  fit = put_at_in (λ entry. IfSome entry FitsEntry) None pending e.client (Some e) tt k.fit f;
}

-- CLAIMS

pub claims_at : (tally : List (ℕ × Claims)) (r : ℕ) → Every IsTallyIn tally → AreClaimsIn (claims_in tally r)
claims_at tally r k = go (find tally r) (find_in IsTallyIn AreClaimsIn tally r (λ m c e. e.1) k)
  where
    go : (o : Option Claims) → IfSome o AreClaimsIn → AreClaimsIn (claims_or_none o)
    go None f = record { places = refl; fit = replicate_in (λ (claim : Option Claim). IfSome claim (λ c. IsCommit c.token c.order)) 5 None tt }
    go (Some claims) f = f

pub votes_in : (tally : List (ℕ × Claims)) (v : Vote) → Every IsTallyIn tally → v.round < 2048 → IsCommit v.token v.order → Every IsTallyIn (with_vote tally v)
votes_in tally v k r c =
    let was = claims_at tally v.round k in
    put_in IsTallyIn tally v.round (with_claim (claims_in tally v.round) v.from (claim v)) k (
      r,
      record {
        places = length-set (claims_in tally v.round) v.from (Some (claim v)) ∙ was.places;
        fit = set_in (λ (claim : Option Claim). IfSome claim (λ c. IsCommit c.token c.order)) (claims_in tally v.round) v.from (Some (claim v)) was.fit c;
      },
    )

-- ANSWERS

holds_in : (u x : ℕ) (h : HeldState) (t : Tier) (n : ℕ) (a : Answer) → IsHeldIn u x h → IsAnswerIn (n, a) → IsHeldIn u x (holds h t n a)
holds_in u x h t n a k f = record { faults = k.faults; me = k.me; answers = at t }
  where
    at : (t v : Tier) → Every IsAnswerIn (answers_of (holds h t n a) v)
    at InMid InMid = put_in IsAnswerIn h.answers.mid n a (k.answers InMid) f
    at InMid Inv = k.answers Inv
    at InMid Pay = k.answers Pay
    at Inv InMid = k.answers InMid
    at Inv Inv = put_in IsAnswerIn h.answers.inv n a (k.answers Inv) f
    at Inv Pay = k.answers Pay
    at Pay InMid = k.answers InMid
    at Pay Inv = k.answers Inv
    at Pay Pay = put_in IsAnswerIn h.answers.pay n a (k.answers Pay) f

pub takes_in : (u x : ℕ) (h : HeldState) (t : Tier) (n code : ℕ) → IsHeldIn u x h → IsCallNumber n → code < 256 → IsHeldIn u x (takes h t n code)
takes_in u x h t n code k c small = go (find (answers_of h t) n)
  where
    go : (o : Option Answer) → IsHeldIn u x (takes_as h t n code o)
    go None = holds_in u x h t n (untold code) k (c, (small, refl))
    go (Some a) = k

-- a code, and a flag for each node
abbrev IsKept : Answer → Type 0
IsKept a = (a.code < 256) × (length a.noted ≡ 5)

pub hears_in : (u x : ℕ) (h : HeldState) (y : ℕ) (t : Tier) (n code : ℕ) → IsHeldIn u x h → IsCallNumber n → code < 256 → IsHeldIn u x (hears h y t n code)
hears_in u x h y t n code k c small =
    holds_in u x h t n (heard (find (answers_of h t) n) code y) k
    (c, go (find (answers_of h t) n) (find_in IsAnswerIn IsKept (answers_of h t) n (λ m a e. e.1) (k.answers t)))
  where
    go : (o : Option Answer) → IfSome o IsKept → IsKept (heard o code y)
    go None f = (small, length-set (untold code).noted y true)
    go (Some a) f = (f.0, length-set a.noted y true ∙ f.1)

pub none_in : (u x : ℕ) → IsHeldIn u x (none_held u x)
none_in u x = record { faults = refl; me = refl; answers = at }
  where
    at : (t : Tier) → Every IsAnswerIn (answers_of (none_held u x) t)
    at InMid = tt
    at Inv = tt
    at Pay = tt

-- WHAT FACTS RESTORE

onto_in : {A : Type 0} (P : A → Type 0) (fs older : List A) → Every P fs → Every P older → Every P (onto fs older)
onto_in P [] older k l = l
onto_in P (f ∷ fs) older k l = onto_in P fs (f ∷ older) k.1 (k.0, l)

held_by : (u x : ℕ) (facts : List Fact) → Every FitsFact facts → IsHeldIn u x (held_in u x facts)
held_by u x [] k = none_in u x
held_by u x (Promised b ∷ fs) k = held_by u x fs k.1
held_by u x (Accepted p b v ∷ fs) k = held_by u x fs k.1
held_by u x (Learned p v ∷ fs) k = held_by u x fs k.1
held_by u x (Held t n code ∷ fs) k = takes_in u x (held_in u x fs) t n code (held_by u x fs k.1) k.0.1.0 k.0.1.1

pub held_restored : (u x : ℕ) (rs : List (List Fact)) → Fit InMid rs → IsHeldIn u x (held_in u x (newest rs))
held_restored u x rs fit =
    held_by u x (newest rs) (subst (Every FitsFact) (sym (newest_facts rs))
    (onto_in FitsFact (all_facts rs) [] (written InMid 0 (all_facts rs) (facts_fit InMid 0 rs fit)) tt))
