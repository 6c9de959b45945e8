-- The test on a grant's four numbers decides that they are the same.
use Rattle.std.proofs.Common.{◌≡◌, Decides, ap}
use Rattle.std.proofs.lemmas.Bool.Decides.{Decides-and, Decides-like, Decides-eqb}
use Rattle.history.specs.Due.{same_ticket}
use Rattle.history.specs.declared.calls.Ticket.{Ticket}

pub same_ticket_Decides : (t u : Ticket) → Decides (same_ticket t u) (t ≡ u)
same_ticket_Decides t u =
    Decides-like _ (λ h i. record { mission = h.0.0.0 i; tick = h.0.0.1 i; action = h.0.1 i; reason = h.1 i })
    (λ e. (((ap (λ x. x.mission) e, ap (λ x. x.tick) e), ap (λ x. x.action) e), ap (λ x. x.reason) e))
    (Decides-and _ _ (Decides-and _ _ (Decides-and _ _ (Decides-eqb t.mission u.mission) (Decides-eqb t.tick u.tick)) (Decides-eqb t.action u.action)) (Decides-eqb t.reason u.reason))
