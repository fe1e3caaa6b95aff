-- The invariant of the world, and what a change of one node keeps of it.
pub use Rattle.tier_laws.proofs.Invariant.Whole.{AllCodes, AllFacts, back_logs, past, Core, Done, NearlyDone, Inv, Mid_event}
pub use Rattle.tier_laws.proofs.Invariant.NodesAreRight.{BackBeside, Beside, Pending, UpOk, DownOk, NodeOk}
use Rattle.std.proofs.Common.{◌≡◌, ℕ, List, [], ◌++◌, refl, sym, ap, ◌∙◌, subst, Some}
use Rattle.std.specs.Prelude.{slice_get}
use Rattle.std.proofs.lemmas.List.{append-nil}
use Rattle.aeg_base.specs.declared.names.Tier.{Tier}
use Rattle.aeg_base.specs.declared.names.Tier.TheVariants.{Mid as MidTier, Inv as InvTier, Pay as PayTier}
use Rattle.log_model.proofs.History.{DidVote}
use Rattle.log_model.proofs.Invariant.{AllGrew, SoupGrew, soup-append, state-grew, turn-grew}
use Rattle.log_model.specs.Recover.{onto}
use Rattle.log_model.specs.Nodes.{Mode, Node}
use Rattle.log_model.specs.Nodes.Mode.{Down, Gone, Up}
use Rattle.log_model.specs.World.{Packet as LogPacket}
use Rattle.log_model.specs.declared.fact.Fact.{Fact as LogFact}
use Rattle.log_values.specs.declared.fact.Fact.{Fact}
use Rattle.log_values.specs.declared.any_value.AnyValue.{AnyValue}
use Rattle.run_model.proofs.Soups.{log_soup-append}
use Rattle.run_model.specs.Runs.{log_soup}
use Rattle.run_model.specs.World.{Config, World}
use Rattle.tier_laws.proofs.BackNodes.RightMoves.{back_other-more}
use Rattle.tier_laws.proofs.Events.OneTiersLog.{meets_good, nearly}
use Rattle.tier_laws.proofs.Events.GrowingPast.{Grows, Known, MidOk, Past, other-more, value_ok-more}
use Rattle.tier_model.specs.Kinds.{State}
use Rattle.run_model.specs.World.{log_at}
use Rattle.tier_model.specs.Moves.{Packet}

-- A NODE THAT AN EVENT LEAVES AS IT IS

pub beside-more : {B : Type 0} (c : Config B) (P Q : Past B) (t : Tier) (x : ℕ) (σ : State B t) → Grows P Q
    → Q.codes t x ≡ P.codes t x → Beside c P t x σ → Beside c Q t x σ
beside-more c P Q MidTier x σ g e k = other-more c P Q x σ g e k
beside-more c P Q InvTier x σ g e k = record { other = back_other-more c P Q InvTier σ g k.other; tied = k.tied }
beside-more c P Q PayTier x σ g e k = record { other = back_other-more c P Q PayTier σ g k.other; tied = k.tied }

pending-more : {B : Type 0} (c : Config B) (P Q : Past B) (t : Tier) (h g : ℕ → List (LogFact AnyValue))
    (xs ys : List (LogPacket AnyValue)) (x : ℕ) (R : List (List Fact))
    → Grows P Q → AllGrew h g → SoupGrew c.u xs ys → g x ≡ h x → Q.codes t x ≡ P.codes t x → Pending c P t h xs x R → Pending c Q t g ys x R
pending-more {B} c P Q t h g xs ys x R w a s e f k = record {
  turn = k.turn;
  codes = k.codes;
  is_log = k.is_log ∙ ap (onto k.turn.facts) (sym e);
  is_held = k.is_held ∙ ap (λ z. z ++ k.codes) (sym f);
  ok = turn-grew c.u h g xs ys x k.turn a s e k.ok;
  good = λ p b v d. value_ok-more c P Q t p v w (k.good p b v (subst (λ z. DidVote (onto k.turn.facts z) p b v) e d));
  right = λ i q r. w.kept.served q.tier q.num q.code (k.right i q r);
}

pub node-more : {B : Type 0} (c : Config B) (P Q : Past B) (t : Tier) (h g : ℕ → List (LogFact AnyValue))
    (xs ys : List (LogPacket AnyValue)) (x : ℕ) (node : Node (State B t) Fact) (m : Mode (State B t))
    → Grows P Q → AllGrew h g → SoupGrew c.u xs ys → g x ≡ h x → Q.codes t x ≡ P.codes t x → NodeOk c P t h xs x node m → NodeOk c Q t g ys x node m
node-more c P Q t h g xs ys x node (Up σ) w a s e f k = record {
  is_log = k.is_log ∙ sym e;
  is_held = k.is_held ∙ sym f;
  log = rw e (state-grew c.u h g (h x) xs ys x (log_at c t σ) a s k.log);
  beside = beside-more c P Q t x σ w f k.beside;
}
node-more c P Q t h g xs ys x node Down w a s e f k = record {
  is_log = k.is_log ∙ sym e;
  is_held = k.is_held ∙ sym f;
  pending = λ n R q. pending-more c P Q t h g xs ys x R w a s e f (k.pending n R q);
}
node-more c P Q t h g xs ys x node Gone w a s e f k = tt

-- THE INVARIANT

pub nearly_done : {B : Type 0} (c : Config B) (w : World B) → Done c w → NearlyDone c w
nearly_done c w k = record { all = λ t. nearly c.u (log_soup t w.soup) (w.logs t) (k.all t) }

pub unchanged : {B : Type 0} (c : Config B) (w : World B) → (i : Inv c w) → Mid_event c (past c w i.codes) w
unchanged c w i = record { codes = i.codes; h = i.h; core = i.core; near = nearly_done c w i.done; before = i.core.logs MidTier; gone_codes = λ t y g. refl }

-- the value at each position of the middle log is good
pub values : {B : Type 0} (c : Config B) (w : World B) (codes : AllCodes) (h : AllFacts) → Core c w codes h
    → (p : ℕ) (v : AnyValue) → slice_get (w.logs MidTier) p ≡ Some v → MidOk c (past c w codes) p v
values c w codes h i p v e =
    meets_good c.u (h MidTier) (log_soup MidTier w.soup) (w.logs MidTier) (MidOk c (past c w codes)) p v (i.logs MidTier) ((i.logs MidTier).sound p v e)

pub known_now : {B : Type 0} (c : Config B) (w : World B) (codes : AllCodes) (h : AllFacts) → Core c w codes h → Known c (past c w codes)
known_now c w codes h i = record { laws = i.laws; values = values c w codes h i; decided = i.ledger.decided; runs = i.runs; codes = i.right }

-- THE PACKETS

pub soup_log : (u : ℕ) (t : Tier) (soup ks : List Packet) → SoupGrew u (log_soup t soup) (log_soup t (soup ++ ks))
soup_log u t soup ks = subst (SoupGrew u (log_soup t soup)) (sym (log_soup-append t soup ks)) (soup-append u (log_soup t soup) (log_soup t ks))

pub same_log : (t : Tier) (soup ks : List Packet) → log_soup t ks ≡ [] → log_soup t (soup ++ ks) ≡ log_soup t soup
same_log t soup ks e = log_soup-append t soup ks ∙ ap (λ z. log_soup t soup ++ z) e ∙ append-nil (log_soup t soup)
