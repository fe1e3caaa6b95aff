use Rattle.std.proofs.Common.{[], ◌∷◌, ◌++◌, ◌∙◌, ap, sym, append_assoc}
use Rattle.std.specs.Prelude.{map}
use Rattle.aeg_base.specs.declared.names.Tier.TheVariants.{Mid}
use Rattle.aeg_base.specs.declared.names.End.TheVariants.{Node, Client}
use Rattle.log_model.specs.Log.{nobody}
use Rattle.frames.specs.declared.message.Msg.TheVariants as msgs
use Rattle.frames.specs.Frames.{frame}
use Rattle.round_model.specs.Lists.{each}
use Rattle.run_model.specs.World.{request_to}
use Rattle.world.specs.Parts.{sealed}
use Rattle.world.proofs.Events.RequestsOfClients.{sealed_more}
use Rattle.world.proofs.parts.clients.add_requests.Goals as goal

pub loop-index-preserved : goal.loop-index-preserved
loop-index-preserved c =
    c.in_ok-push.ensures.ok
    ∙ ap (λ z. c.loop-index.out ++ (Node (record { tier = Mid; index = c.loop-index.index }), z) ∷ [])
    (c.in_ok-copy.ensures ∙ c.in_ok-bytes.ensures
    ∙ ap (λ z. frame (Client c.args.client) (msgs.Request c.args.seq z)) c.in_ok-body.ensures)
    ∙ ap (λ z. z ++ sealed (request_to c.args.client c.args.seq c.args.body.now c.loop-index.index) ∷ []) c.loop-index.invariant
    ∙ append_assoc c.args.out.now
    (map sealed (each c.loop-index.index nobody (request_to c.args.client c.args.seq c.args.body.now)))
    (sealed (request_to c.args.client c.args.seq c.args.body.now c.loop-index.index) ∷ [])
    ∙ ap (λ z. c.args.out.now ++ z) (sym (sealed_more c.loop-index.index (request_to c.args.client c.args.seq c.args.body.now)))
