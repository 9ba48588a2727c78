use Rattle.router_example.proofs.session.Session.look_up.Given as goal

abbrev pub ghosts-find : goal.ghosts-find
ghosts-find a = record { name = a.blank.name; parts = a.blank.parts }
