mod Lawful
