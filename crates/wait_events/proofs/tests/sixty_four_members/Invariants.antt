use Rattle.wait_events.proofs.tests.sixty_four_members.Given as goal

abbrev pub ghosts-picked_with : goal.ghosts-picked_with
ghosts-picked_with g a = record { name = a.blank.name; parts = a.blank.parts }
