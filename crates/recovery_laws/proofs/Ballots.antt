-- The highest ballot of some facts.
use Rattle.std.proofs.Common.{◌≡◌, false, refl, arith}
use Rattle.std.proofs.lemmas.Bool.{cond_both}
use Rattle.aeg_base.specs.Ballots.{no_ballot, is_below}
use Rattle.aeg_base.specs.declared.names.Ballot.{Ballot}
use Rattle.log_model.proofs.Ballots.{equal_ballots}
use Rattle.log_model.specs.Recover.{higher}

-- neither is below the other
pub same_height : (b c : Ballot) → is_below b c ≡ false → is_below c b ≡ false → b ≡ c
same_height b c e f = equal_ballots b c (grind arith) (grind arith)

-- no ballot is below none
pub none_lowest : (b : Ballot) → is_below b no_ballot ≡ false
none_lowest b = grind arith

-- one that isn't below it is the highest of both
pub higher_is : (b c : Ballot) → is_below c b ≡ false → higher b c ≡ c
higher_is b c e = cond_both (is_below b c) c b (λ d. d ≡ c) (λ f. refl) (λ f. same_height b c f e)

-- what isn't above one of both isn't above the highest
pub higher_left : (b c d : Ballot) → is_below b d ≡ false → is_below (higher b c) d ≡ false
higher_left b c d e = cond_both (is_below b c) c b (λ h. is_below h d ≡ false) (λ f. grind arith) (λ f. e)

pub higher_right : (b c : Ballot) → is_below (higher b c) c ≡ false
higher_right b c = cond_both (is_below b c) c b (λ h. is_below h c ≡ false) (λ f. grind arith) (λ f. f)
