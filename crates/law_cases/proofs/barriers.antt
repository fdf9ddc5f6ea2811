mod Skipping
