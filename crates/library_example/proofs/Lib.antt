mod Draws
