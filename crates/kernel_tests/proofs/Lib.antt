mod Quiets
