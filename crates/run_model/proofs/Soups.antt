-- The packets of a tier's log among all packets.
use Rattle.std.proofs.Common.{◌≡◌, List, [], ◌∷◌, ◌++◌, refl, sym, ap, ◌∙◌}
use Rattle.std.proofs.lemmas.List.{append_assoc}
use Rattle.aeg_base.specs.declared.names.Tier.{Tier}
use Rattle.tier_model.specs.Moves.{Packet}
use Rattle.run_model.specs.Runs.{log_part, log_soup}

pub log_soup-append : (t : Tier) (xs ys : List Packet) → log_soup t (xs ++ ys) ≡ log_soup t xs ++ log_soup t ys
log_soup-append t [] ys = refl
log_soup-append t (k ∷ xs) ys = ap (λ z. log_part t k.from k.to k.message ++ z) (log_soup-append t xs ys)
    ∙ sym (append_assoc (log_part t k.from k.to k.message) (log_soup t xs) (log_soup t ys))
